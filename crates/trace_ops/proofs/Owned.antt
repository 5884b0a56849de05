-- In a legal trace of the base profile an item begins an operation where it is a command that begins a sequence, and belongs to one that is there else.
use Rattle.std.proofs.Common.{◌≡◌, ℕ, Bool, true, false, ◌&&◌, cond, List, [], Option, Some, None, refl, sym, ap, ◌∙◌}
use Rattle.nand_geometry.specs.declared.parts.Parts.{Parts}
use Rattle.onfi_cycle.specs.declared.item.Cycle.{Cycle as BusCycle}
use Rattle.onfi_cycle.specs.declared.item.Item.{Item}
use Rattle.onfi_cycle.specs.declared.item.Item.TheVariants.{Cyc}
use Rattle.onfi_cycle.specs.declared.item.Kind.{Kind}
use Rattle.onfi_cycle.specs.declared.item.Kind.TheVariants.{Cmd, Adr, Din, Dout}
use Rattle.onfi_cycle.specs.declared.target_cycle.TargetCycle.{TargetCycle}
use Rattle.onfi_cycle.specs.Command.{command}
use Rattle.onfi_cycle.specs.Lun.{luns_of}
use Rattle.onfi_cycle.specs.Sequence.{target_cycle, tail, facts_of, wants_command, wants_address, takes_inputs}
use Rattle.onfi_cycle.proofs.Passed.{KeepsRules, permitted_keeps}
use Rattle.trace_ops.specs.declared.judged.Judged.{Judged}
use Rattle.trace_ops.specs.declared.looks.Looks.{Looks}
use Rattle.trace_ops.specs.declared.operation.Beginning.TheVariants as begins
use Rattle.trace_ops.specs.declared.operation.Operation.{Operation}
use Rattle.trace_ops.specs.Operation.{begun}
use Rattle.trace_ops.specs.Listing.{Listing, found, op_of, is_command, cycle_owner, output_owner, begins_one, new_by_command, new_one, with_ends, owner_in, opens_alone}
use Rattle.trace_ops.specs.Openings.{opened_at, opens, opening}
use Rattle.trace_ops.proofs.Contents.{opener_begins}
use Rattle.trace_ops.proofs.Cycles.{CycleAt, target_few, closes_no_read, goes_to}
use Rattle.trace_ops.proofs.Driven.{output_tailed}
use Rattle.trace_ops.proofs.Legal.{permitted_as}
use Rattle.trace_ops.proofs.Pieces.{none_newest}
use Rattle.trace_ops.proofs.Tails.{known_command, base_opens, wanted_command, wanted_address, wanted_input, no_command, no_address, no_input}

some_of : (x : Option ℕ) → (x ≡ None → ⊥) → (k : ℕ) × (x ≡ Some k)
some_of None none = absurd (none refl)
some_of (Some k) none = (k, refl)

module _ (g : Parts) (targets n : ℕ) (one_lun : Bool) (past : List Item) (marks : List ℕ) (c : BusCycle) (before after : Looks) (l : Listing) (pieces : ℕ → List TargetCycle)
    (here : CycleAt g targets n past marks c before after l pieces) where
  abbrev j : Judged
  j = permitted_as one_lun n (Cyc c) before after

  abbrev newest : Option ℕ
  newest = found l.places.newest c.ce

  newest_there : (tail past c.ce ≡ [] → ⊥) → (k : ℕ) × (newest ≡ Some k)
  newest_there tailed = some_of newest (λ h. tailed (here.stands.nobody c.ce (target_few g targets n one_lun past marks c before after l pieces here) h))

  old_by : (kind : Kind) → c.kind ≡ kind → KeepsRules g (facts_of (tail past c.ce)) (luns_of g past c.ce) (target_cycle kind c.byte) → (is_command kind && opens_alone c.byte) ≡ false →
      (k : ℕ) × (cycle_owner (with_ends j l).ops l.places j c kind ≡ Some k)
  old_by Cmd e kept opens' =
      let wanted = wanted_command g (facts_of (tail past c.ce)) (command c.byte) kept.f6 (base_opens g (command c.byte) here.base opens') in
      let k = newest_there (λ h. no_command (command c.byte) (ap (λ (t : List TargetCycle). wants_command (facts_of t) (command c.byte)) (sym h) ∙ wanted)) in
      (k.0, goes_to g targets n one_lun past marks c before after l pieces here k.0 k.1 (known_command g (command c.byte) kept.f2) opens' wanted)
  old_by Adr e kept opens' =
      let wanted = wanted_address g (facts_of (tail past c.ce)) c.byte kept.f7 in
      newest_there (λ h. no_address c.byte (ap (λ (t : List TargetCycle). wants_address (facts_of t) c.byte) (sym h) ∙ wanted))
  old_by Din e kept opens' =
      let wanted = wanted_input (facts_of (tail past c.ce)) c.byte kept.f11 in
      newest_there (λ h. no_input (ap (λ (t : List TargetCycle). takes_inputs (facts_of t).phase) (sym h) ∙ wanted))
  old_by Dout e kept opens' =
      some_of (output_owner (with_ends j l).ops l.places j)
      (λ h. output_tailed g targets past c e here.permitted
      (here.stands.nobody c.ce (target_few g targets n one_lun past marks c before after l pieces here) (none_newest _ _ newest h)))

  pub old : opens (Cyc c) ≡ false → (k : ℕ) × (owner_in j (with_ends j l) ≡ Some k)
  old h = old_by c.kind refl (permitted_keeps g targets past c here.permitted) h

  abbrev before_it : Option Operation
  before_it = op_of (with_ends j l).ops newest

  begins_so : (kind : Kind) → KeepsRules g (facts_of (tail past c.ce)) (luns_of g past c.ce) (target_cycle kind c.byte) → (is_command kind && opens_alone c.byte) ≡ true → (cycle_owner (with_ends j l).ops l.places j c kind ≡ None) × (opened_at (new_by_command j before_it c kind) ≡ opening n (Cyc c))
  begins_so Cmd kept h =
      let so = opener_begins before_it c.byte h (closes_no_read g targets n one_lun past marks c before after l pieces here Cmd refl kept) in
      (ap (λ b. cond b None newest) so, at (begins_one before_it c.byte) so)
    where
      at : (b : Bool) → b ≡ true → opened_at (cond b (begun c.ce n (begins.Opener c.byte)) (begun c.ce n begins.Cut)) ≡ opening n (Cyc c)
      at true e = refl
      at false e = cc
  begins_so Adr kept h = cc
  begins_so Din kept h = cc
  begins_so Dout kept h = cc

  pub new : opens (Cyc c) ≡ true → (owner_in j (with_ends j l) ≡ None) × (opened_at (new_one j before_it (Cyc c)) ≡ opening n (Cyc c))
  new h = begins_so c.kind (permitted_keeps g targets past c here.permitted) h
