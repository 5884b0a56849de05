-- What one item more makes of the facts that the rules see.
use Rattle.std.proofs.Common.{◌≡◌, ℕ, Bool, true, false, cond, List, [], ◌∷◌, refl, ap, arith}
use Rattle.nand_geometry.specs.declared.parts.Parts.{Parts}
use Rattle.onfi_cycle.specs.declared.lun.Lun.{Lun}
use Rattle.onfi_cycle.specs.declared.item.Item.{Item}
use Rattle.onfi_cycle.specs.declared.target_cycle.TargetCycle.{TargetCycle}
use Rattle.onfi_cycle.specs.declared.target_cycle.TargetCycle.TheVariants.{CommandCycle, AddressCycle, InputCycle, OutputCycle}
use Rattle.onfi_cycle.specs.declared.item.Item.TheVariants.{Cyc}
use Rattle.onfi_cycle.specs.declared.item.Cycle.{Cycle}
use Rattle.onfi_cycle.specs.Effect.{effect_given}
use Rattle.onfi_cycle.specs.Lun.{latch, effect_on, lun_view, shown_after, view_after}
use Rattle.std.proofs.Common.{eq-eqb, get_or, take, drop, length, sym, ◌∙◌, ◌-◌, ◌≤◌}
use Rattle.std.proofs.lemmas.Grind.{common_steps}
use Rattle.onfi_cycle.specs.declared.tail_facts.TailFacts.{TailFacts}
use Rattle.onfi_cycle.specs.Sequence.{tail, target_cycle, with_cycle, continued, begins_sequence, begins_anew, facts_of, facts_after}
use Rattle.onfi_cycle.specs.Command.{is_opener}
use Rattle.std.proofs.lemmas.Bool.{and_parts}

-- what begins a tail anew is an opener
pub anew_opens : (t : TailFacts) (cycle : TargetCycle) → begins_anew t cycle ≡ true → begins_sequence cycle ≡ true
anew_opens t (CommandCycle c) h = (and_parts (is_opener c) _ h).0
anew_opens t (AddressCycle byte) h = cc
anew_opens t (InputCycle byte) h = cc
anew_opens t OutputCycle h = cc

-- and what is none doesn't
pub goes_on : (t : TailFacts) (cycle : TargetCycle) → begins_sequence cycle ≡ false → begins_anew t cycle ≡ false
goes_on t (CommandCycle c) h = rw h refl
goes_on t (AddressCycle byte) h = refl
goes_on t (InputCycle byte) h = refl
goes_on t OutputCycle h = refl

-- what begins a tail anew is all of it; else the facts go on, and where there is no tail there still is none
facts_on : (cycle : TargetCycle) (t : List TargetCycle) → begins_anew (facts_of t) cycle ≡ false → facts_of (continued cycle t) ≡ facts_after cycle (facts_of t)
facts_on cycle [] h = rw h refl
facts_on (CommandCycle c) (d ∷ t) h = rw h refl
facts_on (AddressCycle byte) (d ∷ t) h = refl
facts_on (InputCycle byte) (d ∷ t) h = refl
facts_on OutputCycle (d ∷ t) h = refl

facts_anew : (cycle : TargetCycle) (t : List TargetCycle) → begins_anew (facts_of t) cycle ≡ true → facts_of (cycle ∷ []) ≡ facts_after cycle (facts_of t)
facts_anew (CommandCycle c) t h = rw h refl
facts_anew (AddressCycle byte) t h = cc
facts_anew (InputCycle byte) t h = cc
facts_anew OutputCycle t h = cc

-- the facts of a tail with one cycle more come from its facts
pub facts_with_cycle : (cycle : TargetCycle) (t : List TargetCycle) → facts_of (with_cycle cycle t) ≡ facts_after cycle (facts_of t)
facts_with_cycle cycle t = at (begins_anew (facts_of t) cycle) refl
  where
    at : (b : Bool) → begins_anew (facts_of t) cycle ≡ b → facts_of (cond b (cycle ∷ []) (continued cycle t)) ≡ facts_after cycle (facts_of t)
    at true h = facts_anew cycle t h
    at false h = facts_on cycle t h

-- a cycle of the target
pub facts_of_cycle : (c : Cycle) (past : List Item) (ce : ℕ) → c.ce ≡ ce → facts_of (tail (Cyc c ∷ past) ce) ≡ facts_after (target_cycle c.kind c.byte) (facts_of (tail past ce))
facts_of_cycle c past ce h = rw (eq-eqb c.ce ce h) (facts_with_cycle (target_cycle c.kind c.byte) (tail past ce))

-- all but the first
rest_of : (x : Item) (xs : List Item) → take (length (x ∷ xs) - 1) (drop 1 (x ∷ xs)) ≡ xs
rest_of x xs = grind (arith, common_steps)

-- the facts after the first item of a slice, where that is a cycle of the target
pub facts_after_first : (past : List Item) (d : Item) (c : Cycle) (ce : ℕ) (r s : TailFacts) → 1 ≤ length past → get_or past 0 d ≡ Cyc c → c.ce ≡ ce → s ≡ facts_of (tail (take (length past - 1) (drop 1 past)) ce) → r ≡ facts_after (target_cycle c.kind c.byte) s → r ≡ facts_of (tail past ce)
facts_after_first [] d c ce r s some first here before now = absurd (omega arith)
facts_after_first (x ∷ xs) d c ce r s some first here before now =
    let before_xs : s ≡ facts_of (tail xs ce) = before ∙ ap (λ (p : List Item). facts_of (tail p ce)) (rest_of x xs) in
    now ∙ (ap (facts_after (target_cycle c.kind c.byte)) before_xs ∙ (sym (facts_of_cycle c xs ce here) ∙ ap (λ (i : Item). facts_of (tail (i ∷ xs) ce)) (sym first)))

-- one item more: the facts of a LUN go on by what the item does to it, and its latch by what that does if the LUN shows alone what it shows
pub view_step : (g : Parts) (past : List Item) (i : Item) (l : Lun) → lun_view g (i ∷ past) l ≡ record (view_after (effect_on g past i l) (lun_view g past l)) { latch = shown_after (effect_given g past (latch g past l) i l) (lun_view g past l) }
view_step g past i l = refl
