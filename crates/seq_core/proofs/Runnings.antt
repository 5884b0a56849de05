-- What is said of runs wherever they are taken apart.
use Rattle.std.proofs.Common.{◌≡◌, ◌∷◌, Option, Some}
use Rattle.micro_program.specs.Moves.{and_then}
use Rattle.seq_core.specs.After.{After, Ran}

pub same_ran : (r q : Ran) → Some r ≡ Some q → r ≡ q
same_ran r q e = cc

pub same_after : (a b : After) → Some a ≡ Some b → a ≡ b
same_after a b h = cc

-- what a first event makes of the run behind it
abbrev pub with_first : After → Option Ran → Option Ran
with_first a o = and_then o (λ r. Some (record { world = r.world; replies = a.reply ∷ r.replies }))
