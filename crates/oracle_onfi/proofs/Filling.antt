-- The bytes of a program with one cycle more.
use Rattle.std.proofs.Common.{◌≡◌, ◌==◌, ℕ, Bool, true, false, cond, List, [], ◌∷◌, Result, Ok, Err, IfOk, refl, sym, ap, ◌∙◌}
use Rattle.onfi_cycle.specs.declared.command.Command.{Command}
use Rattle.onfi_cycle.specs.declared.item.Cycle.{Cycle}
use Rattle.onfi_cycle.specs.declared.item.Item.{Item}
use Rattle.onfi_cycle.specs.declared.item.Item.TheVariants.{Cyc}
use Rattle.onfi_cycle.specs.declared.tail_facts.TailFacts.{TailFacts}
use Rattle.onfi_cycle.specs.declared.target_cycle.TargetCycle.{TargetCycle}
use Rattle.onfi_cycle.specs.declared.target_cycle.TargetCycle.TheVariants.{CommandCycle, AddressCycle, InputCycle, OutputCycle}
use Rattle.onfi_cycle.specs.Sequence.{begins_anew, continued, facts_of, filled, tail, target_cycle, with_cycle}
use Rattle.oracle_onfi.specs.Filled.{filled_after}

command_fills : (begun : List ℕ) (c : Command) (b : Bool) (t : List TargetCycle) → filled begun (cond b (CommandCycle c ∷ []) (continued (CommandCycle c) t)) ≡ cond b begun (filled begun t)
command_fills begun c true t = refl
command_fills begun c false [] = refl
command_fills begun c false (d ∷ t) = refl

pub filled_more : (begun : List ℕ) (k : TargetCycle) (t : List TargetCycle) → filled begun (with_cycle k t) ≡ filled_after begun k (facts_of t) (filled begun t)
filled_more begun (CommandCycle c) t = command_fills begun c (begins_anew (facts_of t) (CommandCycle c)) t
filled_more begun (AddressCycle byte) [] = refl
filled_more begun (AddressCycle byte) (d ∷ t) = refl
filled_more begun (InputCycle byte) [] = refl
filled_more begun (InputCycle byte) (CommandCycle c ∷ t) = refl
filled_more begun (InputCycle byte) (AddressCycle b ∷ t) = refl
filled_more begun (InputCycle byte) (InputCycle b ∷ t) = refl
filled_more begun (InputCycle byte) (OutputCycle ∷ t) = refl
filled_more begun OutputCycle [] = refl
filled_more begun OutputCycle (d ∷ t) = refl

-- the same after a past with a cycle of this target more
pub filled_one : (begun : List ℕ) (past rest : List Item) (c : Cycle) (ce : ℕ) (k : TargetCycle) (t : TailFacts) (before : List ℕ) → past ≡ Cyc c ∷ rest → (c.ce == ce) ≡ true → k ≡ target_cycle c.kind c.byte → t ≡ facts_of (tail rest ce)
    → before ≡ filled begun (tail rest ce) → filled_after begun k t before ≡ filled begun (tail past ce)
filled_one begun past rest c ce k t before parts here cycle_is tail_is before_is =
    (λ i. filled_after begun (cycle_is i) (tail_is i) (before_is i))
    ∙ (sym (filled_more begun (target_cycle c.kind c.byte) (tail rest ce))
    ∙ (ap (λ (b : Bool). filled begun (cond b (with_cycle (target_cycle c.kind c.byte) (tail rest ce)) (tail rest ce))) (sym here)
    ∙ ap (λ (xs : List Item). filled begun (tail xs ce)) (sym parts)))

pub on_ok : {T E : Type 0} (r : Result T E) (P Q : T → Type 0) → IfOk r P → ((x : T) → P x → Q x) → IfOk r Q
on_ok (Ok x) P Q h f = f x h
on_ok (Err e) P Q h f = tt
