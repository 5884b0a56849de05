-- Items that start no work and end none leave the lines of the model as they are.
use Rattle.std.proofs.Common.{◌≡◌, ℕ, zero, suc, ◌+◌, ◌%◌, ◌<◌, ◌==◌, Bool, true, false, ◌&&◌, ◌||◌, cond, not, List, ◌∷◌, Option, Some, None, refl, sym, ap, ◌∙◌, subst, length}
use Rattle.std.proofs.lemmas.Bool.{not-true, eqb-true}
use Rattle.std.proofs.lemmas.Option.{slice_get_within}
use Rattle.std.specs.List.{slice_get}
use Rattle.nand_geometry.specs.declared.parts.Parts.{Parts}
use Rattle.nand_geometry.specs.Limits.{planes}
use Rattle.onfi_cycle.specs.declared.command.Command.{Command}
use Rattle.onfi_cycle.specs.declared.command.Command.TheVariants.{Read, ChangeReadColumnConfirm, ReadStatus, ReadStatusEnhanced, ReadConfirm, ReadPlane, BlockEraseConfirm, BlockErasePlane, ProgramConfirm, ProgramPlane, ProgramCache, ReadId, ReadParameterPage, Reset, ReadCacheSequential, ReadCacheEnd, ReadUniqueId, GetFeatures, ResetLun, SynchronousReset, CopybackRead, PageProgram}
use Rattle.onfi_cycle.specs.declared.effect.Effect.{Effect}
use Rattle.onfi_cycle.specs.declared.effect.Effect.TheVariants.{Unaffected, FeaturesSet, SelectedForStatus, Deselected, ReadColumnChanged, PlaneSelected, DataOutput, StatusSelected, StatusOfSelected, AnotherAddressed, ProgramAddressed}
use Rattle.onfi_cycle.specs.declared.item.Kind.{Kind}
use Rattle.onfi_cycle.specs.declared.item.Kind.TheVariants.{Cmd, Adr, Din, Dout}
use Rattle.onfi_cycle.specs.declared.item.Item.{Item}
use Rattle.onfi_cycle.specs.declared.item.Item.TheVariants.{Cyc, Rdy, Ard}
use Rattle.onfi_cycle.specs.declared.latch.Latch.{Latch}
use Rattle.onfi_cycle.specs.declared.lun.Lun.{Lun}
use Rattle.onfi_cycle.specs.declared.opening.Opening.{Opening}
use Rattle.onfi_cycle.specs.declared.tail_facts.TailFacts.{TailFacts}
use Rattle.onfi_cycle.specs.Command.{command, reads_identity, closes_row, reads_row}
use Rattle.onfi_cycle.specs.Sequence.{target_of, target_cycle, opened, selects_plane, wants_command, row, row_with, takes_features, tail, facts_of}
use Rattle.onfi_cycle.specs.Effect.{is_off, is_data, is_shared, of_target, other_effect, plane_of_row, plane_effect, column_effect, names_lun, confirm_effect, command_effect, address_effect, opening_address_effect, ends_features, cycle_effect, item_effect, program_row_effect}
use Rattle.onfi_cycle.specs.Lun.{busy_after, array_busy_after, effect_on, latch_alone, effect_among}
use Rattle.onfi_cycle.specs.Readies.{starts}
use Rattle.onfi_cycle.specs.State.{TargetView, BusView, Follows, judged, judged_on}
use Rattle.trace_wave.specs.Keeping.{is_reset_lun, kind_keeps_work, keeps_work}
use Rattle.trace_wave.specs.Levels.{shown, tells_failure, some_busy, readies, target_levels, targets_levels, model_levels, rule_bits}
use Rattle.trace_wave.specs.Levels as L
use Rattle.trace_wave.proofs.Counted.{length_targets}

-- an effect that neither starts work nor ends it
record Keeps (e : Effect) : Type 0 where
  busy : (b : Bool) → busy_after e b ≡ b
  array : (b : Bool) (c : Option Command) (a : Bool) → array_busy_after e b c a ≡ a

unaffected : Keeps Unaffected
unaffected = record { busy = λ b. refl; array = λ b c a. refl }

either : (b : Bool) (x y : Effect) → Keeps x → Keeps y → Keeps (cond b x y)
either true x y h k = h
either false x y h k = k

confirm_keeps : (g : Parts) (t : TailFacts) (c : Command) → starts c ≡ false → Keeps (confirm_effect g t c)
confirm_keeps g t ReadConfirm h = cc
confirm_keeps g t ReadPlane h = cc
confirm_keeps g t CopybackRead h = cc
confirm_keeps g t ReadCacheSequential h = cc
confirm_keeps g t BlockEraseConfirm h = cc
confirm_keeps g t BlockErasePlane h = cc
confirm_keeps g t ProgramConfirm h = cc
confirm_keeps g t ProgramPlane h = cc
confirm_keeps g t ProgramCache h = cc
confirm_keeps g t c h = unaffected

other_keeps : (g : Parts) (t : TailFacts) (c : Command) → Keeps (other_effect g t c)
other_keeps g t c = either (closes_row c && (wants_command t c && is_shared g)) (AnotherAddressed (reads_row c)) Unaffected (record { busy = λ b. refl; array = λ b c a. refl }) unaffected

command_keeps : (g : Parts) (t : TailFacts) (la : Latch) (c : Command) (n : ℕ) → starts c ≡ false → Keeps (command_effect g t la c n)
command_keeps g t la Read n h = record { busy = λ b. refl; array = λ b c a. refl }
command_keeps g t la ReadStatus n h = either (is_shared g) StatusOfSelected StatusSelected (record { busy = λ b. refl; array = λ b c a. refl }) (record { busy = λ b. refl; array = λ b c a. refl })
command_keeps g t la ReadStatusEnhanced n h = record { busy = λ b. refl; array = λ b c a. refl }
command_keeps g t la Reset n h = cc
command_keeps g t la SynchronousReset n h = cc
command_keeps g t la ReadCacheSequential n h = cc
command_keeps g t la ReadCacheEnd n h = cc
command_keeps g t la ChangeReadColumnConfirm n h =
    either (selects_plane t) (plane_effect g t n) (column_effect t la)
    (either (names_lun g (row t) n) (PlaneSelected (plane_of_row g (row t)) (planes g) t.column) Deselected (record { busy = λ b. refl; array = λ b c a. refl }) (record { busy = λ b. refl; array = λ b c a. refl }))
    (either (wants_command t ChangeReadColumnConfirm && not (is_off la)) (ReadColumnChanged t.column) Unaffected (record { busy = λ b. refl; array = λ b c a. refl }) unaffected)
command_keeps g t la c n h = either (wants_command t c && names_lun g (row t) n) (confirm_effect g t c) (other_effect g t c) (confirm_keeps g t c h) (other_keeps g t c)

address_keeps : (g : Parts) (t : TailFacts) (byte n lun : ℕ) (c : Command) → (reads_identity c || is_reset_lun c) ≡ false → Keeps (address_effect g t byte c n lun)
address_keeps g t byte n lun ReadStatusEnhanced h =
    either (n == 2) (cond (names_lun g (row_with t byte) lun) SelectedForStatus Deselected) Unaffected
    (either (names_lun g (row_with t byte) lun) SelectedForStatus Deselected (record { busy = λ b. refl; array = λ b c a. refl }) (record { busy = λ b. refl; array = λ b c a. refl })) unaffected
address_keeps g t byte n lun ReadId h = cc
address_keeps g t byte n lun ReadParameterPage h = cc
address_keeps g t byte n lun ReadUniqueId h = cc
address_keeps g t byte n lun GetFeatures h = cc
address_keeps g t byte n lun ResetLun h = cc
address_keeps g t byte n lun PageProgram h =
    either (n == 4) (program_row_effect (names_lun g (row_with t byte) lun)) Unaffected
    (either (names_lun g (row_with t byte) lun) ProgramAddressed Unaffected (record { busy = λ b. refl; array = λ b c a. refl }) unaffected) unaffected
address_keeps g t byte n lun c h = unaffected

opening_keeps : (g : Parts) (t : TailFacts) (byte lun : ℕ) (o : Option Opening) → not (opened (λ c n. reads_identity c || is_reset_lun c) o) ≡ true → Keeps (opening_address_effect g t byte o lun)
opening_keeps g t byte lun None h = unaffected
opening_keeps g t byte lun (Some o) h = address_keeps g t byte o.addresses lun o.opener (not-true (reads_identity o.opener || is_reset_lun o.opener) h)

cycle_keeps : (g : Parts) (past : List Item) (la : Latch) (ce byte lun : ℕ) (kind : Kind)
    → kind_keeps_work past ce kind (Cyc (record { ce = ce; kind = kind; byte = byte })) ≡ true → Keeps (cycle_effect g (facts_of (tail past ce)) la (target_cycle kind byte) lun)
cycle_keeps g past la ce byte lun Cmd h = command_keeps g (facts_of (tail past ce)) la (command byte) lun (not-true (starts (command byte)) h)
cycle_keeps g past la ce byte lun Adr h = opening_keeps g (facts_of (tail past ce)) byte lun (facts_of (tail past ce)).opening h
cycle_keeps g past la ce byte lun Din h =
    let t = facts_of (tail past ce) in
    let none : ends_features t ≡ false = ap (λ (b : Bool). b && t.inputs == 3) (not-true (takes_features t.phase) h) in
    subst Keeps (sym (ap (λ (b : Bool). cond b (of_target g lun (FeaturesSet (t.column % 256))) Unaffected) none)) unaffected
cycle_keeps g past la ce byte lun Dout h = either (is_data la) DataOutput Unaffected (record { busy = λ b. refl; array = λ b c a. refl }) unaffected

item_keeps : (g : Parts) (past : List Item) (la : Latch) (i : Item) (l : Lun) → keeps_work past i ≡ true → Keeps (item_effect g (facts_of (tail past l.ce)) la i l)
item_keeps g past la (Cyc c) l h = at (c.ce == l.ce) refl
  where
    at : (b : Bool) → (c.ce == l.ce) ≡ b → Keeps (cond b (cycle_effect g (facts_of (tail past l.ce)) la (target_cycle c.kind c.byte) l.lun) Unaffected)
    at true e = subst (λ (k : ℕ). Keeps (cycle_effect g (facts_of (tail past k)) la (target_cycle c.kind c.byte) l.lun)) (eqb-true c.ce l.ce e) (cycle_keeps g past la c.ce c.byte l.lun c.kind h)
    at false e = unaffected
item_keeps g past la (Rdy ce lun fail) l h = cc
item_keeps g past la (Ard ce lun fail) l h = cc

effect_keeps : (g : Parts) (past : List Item) (i : Item) (l : Lun) → keeps_work past i ≡ true → Keeps (effect_on g past i l)
unfolding effect_among
effect_keeps g past i l h = item_keeps g past (latch_alone g past l) i l h

tells_none : (past : List Item) (i : Item) (ce lun : ℕ) → keeps_work past i ≡ true → tells_failure (i ∷ past) ce lun ≡ false
tells_none past (Cyc c) ce lun h = refl
tells_none past (Rdy at of fail) ce lun h = cc
tells_none past (Ard at of fail) ce lun h = cc

-- what the lines of the LUNs are told from is the same after two pasts
record Same (g : Parts) (p q : List Item) : Type 0 where
  busy : (ce lun : ℕ) → L.is_busy g p ce lun ≡ L.is_busy g q ce lun
  array : (ce lun : ℕ) → L.has_busy_array g p ce lun ≡ L.has_busy_array g q ce lun
  fail : (ce lun : ℕ) → tells_failure p ce lun ≡ tells_failure q ce lun

same_some_busy : (g : Parts) (p q : List Item) (ce count n : ℕ) → Same g p q → some_busy g p ce count n ≡ some_busy g q ce count n
same_some_busy g p q ce zero n s = refl
same_some_busy g p q ce (suc count) n s = rw (s.busy ce n, same_some_busy g p q ce count (n + 1) s) refl

same_readies : (g : Parts) (p q : List Item) (count n : ℕ) → Same g p q → readies true g p count n ≡ readies true g q count n
same_readies g p q zero n s = refl
same_readies g p q (suc count) n s = rw (same_some_busy g p q n g.luns 0 s, same_readies g p q count (n + 1) s) refl

same_target : (g : Parts) (p q : List Item) (ce count n : ℕ) → Same g p q → target_levels true g p ce count n ≡ target_levels true g q ce count n
same_target g p q ce zero n s = refl
same_target g p q ce (suc count) n s = rw (s.busy ce n, s.array ce n, s.fail ce n, same_target g p q ce count (n + 1) s) refl

same_targets : (g : Parts) (p q : List Item) (count n : ℕ) → Same g p q → targets_levels true g p count n ≡ targets_levels true g q count n
same_targets g p q zero n s = refl
same_targets g p q (suc count) n s = rw (same_target g p q n g.luns 0 s, same_targets g p q count (n + 1) s) refl

same_levels : (g : Parts) (targets : ℕ) (p q : List Item) → Same g p q → model_levels g targets p 0 ≡ model_levels g targets q 0
same_levels g targets p q s = rw (same_readies g p q targets 0 s, same_targets g p q targets 0 s) refl

pub levels_kept : (g : Parts) (targets : ℕ) (past : List Item) (i : Item) → keeps_work past i ≡ true → ((ce lun : ℕ) → tells_failure past ce lun ≡ false)
    → model_levels g targets (i ∷ past) 0 ≡ model_levels g targets past 0
levels_kept g targets past i h none = same_levels g targets (i ∷ past) past (record {
  busy = λ ce lun. (effect_keeps g past i (record { ce = ce; lun = lun }) h).busy _;
  array = λ ce lun. (effect_keeps g past i (record { ce = ce; lun = lun }) h).array _ _ _;
  fail = λ ce lun. tells_none past i ce lun h ∙ sym (none ce lun);
})

-- an item that breaks no rule is on a target that is there
pub target_there : (g : Parts) (targets : ℕ) (past : List Item) (s : BusView) (i : Item) → Follows g targets s past → judged s i ≡ None → target_of i < targets
target_there g targets past s i f h = at (slice_get s.targets (target_of i)) refl h
  where
    at : (o : Option TargetView) → slice_get s.targets (target_of i) ≡ o → judged_on s.geometry (length s.targets) o i ≡ None → target_of i < targets
    at None e k = cc
    at (Some v) e k = subst (λ (n : ℕ). target_of i < n) (ap (λ (ts : List TargetView). length ts) f.facts ∙ length_targets g past targets 0) (slice_get_within s.targets (target_of i) v e)
