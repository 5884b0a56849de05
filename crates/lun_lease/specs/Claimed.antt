-- What a claim answers.
use Rattle.std.specs.Prelude.{◌≡◌, ℕ, [], ◌∷◌, ◌++◌}
use Rattle.lun_lease.specs.Lease.{Seated}
use Rattle.lun_lease.specs.declared.rule.Call.TheVariants.{Given, Refused}
use Rattle.lun_lease.specs.declared.lease.Claimed.{Claimed}
use Rattle.lun_lease.specs.declared.lease.Claimed.TheVariants.{Got, Held}

-- a lease of this LUN, or the seat again. Either way the seat's calls gained this claim, with its answer
abbrev pub IsAnswer : {A : Type 0} → Seated → ℕ → Claimed A → Type 0
IsAnswer s lun (Got l) = l ≡ record { table = s.table; lun = lun; calls = s.calls ++ Given lun ∷ [] }
IsAnswer s lun (Held t) = t ≡ record { table = s.table; calls = s.calls ++ Refused lun ∷ [] }
