-- Which items start work of a LUN in the model, and what they leave of the tail.
use Rattle.std.proofs.Common.{◌≡◌, ℕ, ◌+◌, ◌==◌, Bool, true, false, ◌&&◌, ◌||◌, not, cond, List, [], ◌∷◌, Option, Some, None, refl, sym, ap, ◌∙◌, arith, ltb, eqb-true}
use Rattle.std.proofs.lemmas.Bool.{and_parts, and_left, or_parts}
use Rattle.std.proofs.lemmas.Bool.Decides.{nat_tests}
use Rattle.nand_geometry.specs.declared.parts.Parts.{Parts}
use Rattle.onfi_cycle.specs.declared.command.Command.{Command}
use Rattle.onfi_cycle.specs.declared.command.Command.TheVariants.{Read, ReadConfirm, ChangeReadColumn, ChangeReadColumnEnhanced, ChangeReadColumnConfirm, BlockErase, BlockEraseConfirm, BlockErasePlane, ReadStatus, ReadStatusEnhanced, PageProgram, ChangeWriteColumn, ProgramConfirm, ProgramPlane, ReadId, ReadParameterPage, Reset, ReadCacheSequential, ReadCacheEnd, ReadUniqueId, GetFeatures, ResetLun, SynchronousReset, ReadPlane, CopybackRead, ProgramCache}
use Rattle.onfi_cycle.specs.declared.data_phase.DataPhase.{DataPhase}
use Rattle.onfi_cycle.specs.declared.data_phase.DataPhase.TheVariants.{Outside, Inputs, FirstColumn, SecondColumn, FeatureInputs}
use Rattle.onfi_cycle.specs.declared.effect.Effect.{Effect}
use Rattle.onfi_cycle.specs.declared.effect.Effect.TheVariants.{Unaffected, BecameReady, IdRead, IdentityRead, AnotherAddressed, Deselected, ResetStarted, TargetResetStarted}
use Rattle.onfi_cycle.specs.declared.item.Cycle.{Cycle}
use Rattle.onfi_cycle.specs.declared.item.Failures.{Failures}
use Rattle.onfi_cycle.specs.declared.item.Item.{Item}
use Rattle.onfi_cycle.specs.declared.item.Item.TheVariants.{Cyc, Rdy, Ard}
use Rattle.onfi_cycle.specs.declared.latch.Latch.{Latch}
use Rattle.onfi_cycle.specs.declared.latch.Latch.TheVariants.{Off}
use Rattle.onfi_cycle.specs.declared.lun.Lun.{Lun}
use Rattle.onfi_cycle.specs.declared.opening.Opening.{Opening}
use Rattle.onfi_cycle.specs.declared.tail_facts.TailFacts.{TailFacts}
use Rattle.onfi_cycle.specs.declared.target_cycle.TargetCycle.{TargetCycle}
use Rattle.onfi_cycle.specs.declared.target_cycle.TargetCycle.TheVariants.{CommandCycle, AddressCycle, InputCycle, OutputCycle}
use Rattle.onfi_cycle.specs.Command.{is_opener, closes_row, reads_row, address_cycles, wants_closer, closes, takes_address, at_last_row, begins_data, is_set_features}
use Rattle.onfi_cycle.specs.Effect.{is_off, is_data, is_shared, acts_for_target, of_target, other_effect, lun_reset_effect, names_lun, confirm_effect, row_effect, cache_effect, plane_effect, column_effect, command_effect, address_effect, opening_address_effect, ends_features, cycle_effect}
use Rattle.onfi_cycle.specs.Lun.{is_only, drivers, latch, latch_alone, effect_among, busy_after, is_busy}
use Rattle.onfi_cycle.specs.OtherLun.{keeps_to, keeps_to_lun, serves_target}
use Rattle.onfi_cycle.specs.Sequence.{target_cycle, continued, with_cycle, tail, opening, opened, one_address_more, inputs, data_phase, phase_after_command, phase_after_address, phase_after_last_address, phase_after_input, facts_of, selects_plane, wants_address, wants_command, wants_column, takes_features, wants, row, row_with}
use Rattle.trace_ops.proofs.Contents.{one_less}

-- ---- effects

-- the effect starts work, whatever the LUN did before
abbrev pub starts : Effect → Bool
starts e = busy_after e false

abbrev is_ready : Effect → Bool
is_ready (BecameReady fail) = true
is_ready _ = false

busy_by : (e : Effect) (busy : Bool) → is_ready e ≡ false → busy_after e busy ≡ (busy || starts e)
busy_by e false h = refl
busy_by (BecameReady fail) true h = cc
busy_by e true h = refl

-- of two effects, whichever it is
pub either_false : (p : Effect → Bool) (b : Bool) (x y : Effect) → p x ≡ false → p y ≡ false → p (cond b x y) ≡ false
either_false p true x y h k = h
either_false p false x y h k = k

confirm_ready : (g : Parts) (t : TailFacts) (c : Command) → is_ready (confirm_effect g t c) ≡ false
confirm_ready g t ReadConfirm = refl
confirm_ready g t ReadCacheSequential = refl
confirm_ready g t BlockEraseConfirm = refl
confirm_ready g t BlockErasePlane = refl
confirm_ready g t ReadPlane = refl
confirm_ready g t CopybackRead = refl
confirm_ready g t ProgramCache = refl
confirm_ready g t ProgramConfirm = refl
confirm_ready g t ProgramPlane = refl
confirm_ready g t c = refl

-- what the closer of a row does to the other LUNs
other_ready : (g : Parts) (t : TailFacts) (c : Command) → is_ready (other_effect g t c) ≡ false
other_ready g t c = either_false is_ready (closes_row c && (wants_command t c && is_shared g)) (AnotherAddressed (reads_row c)) Unaffected refl refl

other_starts : (g : Parts) (t : TailFacts) (c : Command) → starts (other_effect g t c) ≡ false
other_starts g t c = either_false starts (closes_row c && (wants_command t c && is_shared g)) (AnotherAddressed (reads_row c)) Unaffected refl refl

-- what is done for a whole target
target_ready : (g : Parts) (lun : ℕ) (e : Effect) → is_ready e ≡ false → is_ready (of_target g lun e) ≡ false
target_ready g lun e h = either_false is_ready (acts_for_target g lun) e Deselected h refl

target_starts : (g : Parts) (lun : ℕ) (e : Effect) → starts e ≡ false → starts (of_target g lun e) ≡ false
target_starts g lun e h = either_false starts (acts_for_target g lun) e Deselected h refl

-- a reset of one LUN, at the others
spared_ready : (g : Parts) → is_ready (cond (is_shared g) (AnotherAddressed false) Unaffected) ≡ false
spared_ready g = either_false is_ready (is_shared g) _ _ refl refl

spared_starts : (g : Parts) → starts (cond (is_shared g) (AnotherAddressed false) Unaffected) ≡ false
spared_starts g = either_false starts (is_shared g) _ _ refl refl

command_ready : (g : Parts) (t : TailFacts) (s : Latch) (c : Command) (lun : ℕ) → is_ready (command_effect g t s c lun) ≡ false
command_ready g t s Read lun = refl
command_ready g t s ReadStatus lun = either_false is_ready (is_shared g) _ _ refl refl
command_ready g t s ReadStatusEnhanced lun = refl
command_ready g t s Reset lun = either_false is_ready (is_shared g) _ _ refl refl
command_ready g t s SynchronousReset lun = either_false is_ready (is_shared g) _ _ refl refl
command_ready g t s ReadCacheSequential lun =
    either_false is_ready (wants_command t ReadCacheSequential) _ _
    (either_false is_ready (wants_command t ReadCacheSequential && names_lun g (row t) lun) _ _ (confirm_ready g t ReadCacheSequential) (other_ready g t ReadCacheSequential))
    (either_false is_ready (is_off s) _ _ refl refl)
command_ready g t s ReadCacheEnd lun = either_false is_ready (is_off s) _ _ refl refl
command_ready g t s ChangeReadColumnConfirm lun =
    either_false is_ready (selects_plane t) _ _ (either_false is_ready (names_lun g (row t) lun) _ _ refl refl) (either_false is_ready (wants_command t ChangeReadColumnConfirm && not (is_off s)) _ _ refl refl)
command_ready g t s c lun = either_false is_ready (wants_command t c && names_lun g (row t) lun) _ _ (confirm_ready g t c) (other_ready g t c)

address_ready : (g : Parts) (t : TailFacts) (byte : ℕ) (c : Command) (n lun : ℕ) → is_ready (address_effect g t byte c n lun) ≡ false
address_ready g t byte ReadStatusEnhanced n lun = either_false is_ready (n == 2) _ _ (either_false is_ready (names_lun g (row_with t byte) lun) _ _ refl refl) refl
address_ready g t byte ReadId n lun = either_false is_ready (wants_address t byte) _ _ (target_ready g lun _ (either_false is_ready (byte == 0x20) _ _ refl refl)) refl
address_ready g t byte ReadParameterPage n lun = either_false is_ready (wants_address t byte) _ _ (target_ready g lun _ refl) refl
address_ready g t byte ReadUniqueId n lun = either_false is_ready (wants_address t byte) _ _ (target_ready g lun _ refl) refl
address_ready g t byte GetFeatures n lun = either_false is_ready (wants_address t byte) _ _ (target_ready g lun _ refl) refl
address_ready g t byte ResetLun n lun = either_false is_ready (n == 2) _ _ (either_false is_ready (names_lun g (row_with t byte) lun) _ _ refl (spared_ready g)) refl
address_ready g t byte PageProgram n lun = either_false is_ready (n == 4) _ _ (either_false is_ready (names_lun g (row_with t byte) lun) _ _ refl refl) refl
address_ready g t byte c n lun = refl

opening_ready : (g : Parts) (t : TailFacts) (byte : ℕ) (o : Option Opening) (lun : ℕ) → is_ready (opening_address_effect g t byte o lun) ≡ false
opening_ready g t byte None lun = refl
opening_ready g t byte (Some o) lun = address_ready g t byte o.opener o.addresses lun

cycle_ready : (g : Parts) (t : TailFacts) (s : Latch) (c : TargetCycle) (lun : ℕ) → is_ready (cycle_effect g t s c lun) ≡ false
cycle_ready g t s (CommandCycle c) lun = command_ready g t s c lun
cycle_ready g t s (AddressCycle byte) lun = opening_ready g t byte t.opening lun
cycle_ready g t s (InputCycle byte) lun = either_false is_ready (ends_features t) _ _ (target_ready g lun _ refl) refl
cycle_ready g t s OutputCycle lun = either_false is_ready (is_data s) _ _ refl refl

-- ---- what a cycle does

-- the cycle starts work of this LUN
abbrev pub starts_by : Parts → List Item → Lun → TargetCycle → Bool
starts_by g past l c = starts (cycle_effect g (facts_of (tail past l.ce)) (latch_alone g past l) c l.lun)

on_target : (b : Bool) (x : Effect) (busy : Bool) → is_ready x ≡ false → busy_after (cond b x Unaffected) busy ≡ (busy || (b && starts x))
on_target true x busy h = busy_by x busy h
on_target false x true h = refl
on_target false x false h = refl

-- a LUN works after a cycle where it did before, or where the cycle starts it
pub cycle_busy : (g : Parts) (past : List Item) (c : Cycle) (l : Lun) → is_busy g (Cyc c ∷ past) l ≡ (is_busy g past l || (c.ce == l.ce && starts_by g past l (target_cycle c.kind c.byte)))
unfolding effect_among
cycle_busy g past c l =
    on_target (c.ce == l.ce) _ (is_busy g past l) (cycle_ready g (facts_of (tail past l.ce)) (latch_alone g past l) (target_cycle c.kind c.byte) l.lun)

-- a ready ends the work of its LUN, and changes nothing else
pub ready_busy : (g : Parts) (past : List Item) (ce lun : ℕ) (fail : Failures) (l : Lun) →
    is_busy g (Rdy ce lun fail ∷ past) l ≡ cond (ce == l.ce && lun == l.lun) false (is_busy g past l)
unfolding effect_among
ready_busy g past ce lun fail l = at (ce == l.ce && lun == l.lun)
  where
    at : (b : Bool) → busy_after (cond b (BecameReady fail) Unaffected) (is_busy g past l) ≡ cond b false (is_busy g past l)
    at true = refl
    at false = refl

pub array_ready_busy : (g : Parts) (past : List Item) (ce lun : ℕ) (fail : Bool) (l : Lun) → is_busy g (Ard ce lun fail ∷ past) l ≡ is_busy g past l
unfolding effect_among
array_ready_busy g past ce lun fail l = at (ce == l.ce && lun == l.lun)
  where
    at : (b : Bool) → busy_after (cond b (Effect.ArrayBecameReady fail) Unaffected) (is_busy g past l) ≡ is_busy g past l
    at true = refl
    at false = refl

-- ---- which LUN it is

named_true : (w n : Bool) (x y : Effect) → starts y ≡ false → starts (cond (w && n) x y) ≡ true → n ≡ true
named_true true true x y k h = refl
named_true true false x y k h = (let z = sym k ∙ h in cc)
named_true false n x y k h = (let z = sym k ∙ h in cc)

reset_named : (g : Parts) (last named : Bool) → starts (cond last (lun_reset_effect g named) Unaffected) ≡ true → named ≡ true
reset_named g true true h = refl
reset_named g true false h = (let z = sym (spared_starts g) ∙ h in cc)
reset_named g false named h = cc

alone_only : (g : Parts) (past : List Item) (l : Lun) (x : Effect) → starts (cond (is_off (latch_alone g past l)) Unaffected x) ≡ true → is_only (drivers g past l.ce) l.lun ≡ true
alone_only g past l x h = at (is_only (drivers g past l.ce) l.lun) h
  where
    at : (b : Bool) → starts (cond (is_off (cond b (latch g past l) Off)) Unaffected x) ≡ true → b ≡ true
    at true h = refl
    at false h = cc

-- neither of two effects starts work
neither_starts : (b : Bool) (x y : Effect) → starts x ≡ false → starts y ≡ false → starts (cond b x y) ≡ true → ⊥
neither_starts true x y h k e = (let z = sym h ∙ e in cc)
neither_starts false x y h k e = (let z = sym k ∙ e in cc)

-- nor does E0, behind 06 and behind 05
plane_starts : (g : Parts) (t : TailFacts) (lun : ℕ) → starts (plane_effect g t lun) ≡ false
plane_starts g t lun = either_false starts (names_lun g (row t) lun) _ _ refl refl

driver_starts : (t : TailFacts) (s : Latch) → starts (column_effect t s) ≡ false
driver_starts t s = either_false starts (wants_command t ChangeReadColumnConfirm && not (is_off s)) _ _ refl refl

command_keeps : (g : Parts) (past : List Item) (l : Lun) (c : Command) → starts_by g past l (CommandCycle c) ≡ true → keeps_to_lun g past l (CommandCycle c) ≡ true
command_keeps g past l ReadConfirm h = named_true _ _ _ _ (other_starts g (facts_of (tail past l.ce)) ReadConfirm) h
command_keeps g past l BlockEraseConfirm h = named_true _ _ _ _ (other_starts g (facts_of (tail past l.ce)) BlockEraseConfirm) h
command_keeps g past l BlockErasePlane h = named_true _ _ _ _ (other_starts g (facts_of (tail past l.ce)) BlockErasePlane) h
command_keeps g past l ReadPlane h = named_true _ _ _ _ (other_starts g (facts_of (tail past l.ce)) ReadPlane) h
command_keeps g past l CopybackRead h = named_true _ _ _ _ (other_starts g (facts_of (tail past l.ce)) CopybackRead) h
command_keeps g past l ProgramCache h = named_true _ _ _ _ (other_starts g (facts_of (tail past l.ce)) ProgramCache) h
command_keeps g past l ProgramConfirm h = named_true _ _ _ _ (other_starts g (facts_of (tail past l.ce)) ProgramConfirm) h
command_keeps g past l ProgramPlane h = named_true _ _ _ _ (other_starts g (facts_of (tail past l.ce)) ProgramPlane) h
command_keeps g past l ReadCacheSequential h = at (wants_command (facts_of (tail past l.ce)) ReadCacheSequential) h
  where
    of : Effect
    of = row_effect g (facts_of (tail past l.ce)) ReadCacheSequential l.lun

    at : (w : Bool) → starts (cond w of (cache_effect (latch_alone g past l))) ≡ true →
        cond w (names_lun g (row (facts_of (tail past l.ce))) l.lun) (is_only (drivers g past l.ce) l.lun) ≡ true
    at true h = named_true _ _ _ _ (other_starts g (facts_of (tail past l.ce)) ReadCacheSequential) h
    at false h = alone_only g past l _ h
command_keeps g past l ReadCacheEnd h = alone_only g past l _ h
command_keeps g past l ChangeReadColumnConfirm h =
    absurd (neither_starts (selects_plane (facts_of (tail past l.ce))) _ _ (plane_starts g (facts_of (tail past l.ce)) l.lun) (driver_starts (facts_of (tail past l.ce)) (latch_alone g past l)) h)
command_keeps g past l c h = refl

address_keeps : (g : Parts) (t : TailFacts) (byte : ℕ) (c : Command) (n lun : ℕ) → starts (address_effect g t byte c n lun) ≡ true →
    cond (at_last_row c n) (names_lun g (row_with t byte) lun) true ≡ true
address_keeps g t byte Read n lun h = cc
address_keeps g t byte ChangeReadColumnEnhanced n lun h = cc
address_keeps g t byte BlockErase n lun h = cc
address_keeps g t byte PageProgram n lun h = absurd (neither_starts (n == 4) _ _ (either_false starts (names_lun g (row_with t byte) lun) _ _ refl refl) refl h)
address_keeps g t byte ChangeWriteColumn n lun h = cc
address_keeps g t byte ReadStatusEnhanced n lun h =
    absurd (neither_starts (n == 2) _ _ (either_false starts (names_lun g (row_with t byte) lun) _ _ refl refl) refl h)
address_keeps g t byte ResetLun n lun h = at (n == 2) (reset_named g (n == 2) (names_lun g (row_with t byte) lun) h)
  where
    at : (b : Bool) → names_lun g (row_with t byte) lun ≡ true → cond b (names_lun g (row_with t byte) lun) true ≡ true
    at true e = e
    at false e = refl
address_keeps g t byte c n lun h = refl

lun_keeps : (g : Parts) (past : List Item) (l : Lun) (c : TargetCycle) → starts_by g past l c ≡ true → keeps_to_lun g past l c ≡ true
lun_keeps g past l (CommandCycle c) h = command_keeps g past l c h
lun_keeps g past l (AddressCycle byte) h = at (opening (tail past l.ce)) h
  where
    at : (o : Option Opening) → starts (opening_address_effect g (facts_of (tail past l.ce)) byte o l.lun) ≡ true →
        cond (opened (λ c n. true && at_last_row c n) o) (names_lun g (row_with (facts_of (tail past l.ce)) byte) l.lun) true ≡ true
    at None h = refl
    at (Some o) h = address_keeps g (facts_of (tail past l.ce)) byte o.opener o.addresses l.lun h
lun_keeps g past l (InputCycle byte) h = refl
lun_keeps g past l OutputCycle h = absurd (neither_starts (is_data (latch_alone g past l)) _ _ refl refl h)

-- a LUN whose work a cycle starts is the one that the cycle is for, where its target isn't shared
pub starts_keeps : (g : Parts) (past : List Item) (l : Lun) (c : TargetCycle) → is_shared g ≡ false → starts_by g past l c ≡ true → keeps_to g past l c ≡ true
starts_keeps g past l c narrow h = ap (λ (b : Bool). not (b && serves_target past l.ce c) && keeps_to_lun g past l c) narrow ∙ lun_keeps g past l c h

-- an output starts none
pub output_starts : (g : Parts) (past : List Item) (l : Lun) → starts_by g past l OutputCycle ≡ false
output_starts g past l = either_false starts (is_data (latch_alone g past l)) _ _ refl refl

-- nor do those that ask for a status, or go back to the data
pub status_starts : (g : Parts) (past : List Item) (l : Lun) → starts_by g past l (CommandCycle ReadStatus) ≡ false
status_starts g past l = either_false starts (is_shared g) _ _ refl refl

-- a reset starts work of each
pub reset_begins : (g : Parts) (past : List Item) (l : Lun) → starts_by g past l (CommandCycle Reset) ≡ true
reset_begins g past l = at (is_shared g)
  where
    at : (b : Bool) → starts (cond b (TargetResetStarted (l.lun == 0)) ResetStarted) ≡ true
    at true = refl
    at false = refl

pub read_starts : (g : Parts) (past : List Item) (l : Lun) → starts_by g past l (CommandCycle Read) ≡ false
read_starts g past l = refl

pub column_starts : (g : Parts) (past : List Item) (l : Lun) → starts_by g past l (CommandCycle ChangeReadColumnConfirm) ≡ false
column_starts g past l =
    either_false starts (selects_plane (facts_of (tail past l.ce))) _ _ (plane_starts g (facts_of (tail past l.ce)) l.lun) (driver_starts (facts_of (tail past l.ce)) (latch_alone g past l))

pub enhanced_starts : (g : Parts) (past : List Item) (l : Lun) (byte : ℕ) (o : Opening) → opening (tail past l.ce) ≡ Some o → o.opener ≡ ReadStatusEnhanced → starts_by g past l (AddressCycle byte) ≡ false
enhanced_starts g past l byte o is same =
    ap (λ x. starts (opening_address_effect g (facts_of (tail past l.ce)) byte x l.lun)) is
    ∙ ap (λ c. starts (address_effect g (facts_of (tail past l.ce)) byte c o.addresses l.lun)) same
    ∙ either_false starts (o.addresses == 2) _ _ (either_false starts (names_lun g (row_with (facts_of (tail past l.ce)) byte) l.lun) _ _ refl refl) refl

-- an address starts none but behind an opener
pub unopened_starts : (g : Parts) (past : List Item) (l : Lun) (byte : ℕ) → opening (tail past l.ce) ≡ None → starts_by g past l (AddressCycle byte) ≡ false
unopened_starts g past l byte is = ap (λ x. starts (opening_address_effect g (facts_of (tail past l.ce)) byte x l.lun)) is

-- ---- what it leaves of the tail

-- the opener's sequence goes on after so many addresses
abbrev goes_on_by : Command → ℕ → Bool
goes_on_by c n = ltb n (address_cycles c) || wants_closer c

-- nothing but an opener may follow
pub record IsEnded (t : TailFacts) : Type 0 where
  pub phase : t.phase ≡ Outside
  pub opening : opened goes_on_by t.opening ≡ false

no_closer : (c d : Command) → wants_closer c ≡ false → closes c d ≡ false
no_closer Read d h = cc
no_closer ChangeReadColumn d h = cc
no_closer ChangeReadColumnEnhanced d h = cc
no_closer BlockErase d h = cc
no_closer PageProgram d h = cc
no_closer c d h = refl

first_false : (a b c : Bool) → b ≡ false → (a && b && c) ≡ false
first_false true true c h = cc
first_false true false c h = refl
first_false false b c h = refl

closed_none : (d : Command) (o : Option Opening) → opened goes_on_by o ≡ false → opened (λ c n. closes c d && n == address_cycles c) o ≡ false
closed_none d None h = refl
closed_none d (Some o) h =
    and_left (closes o.opener d) (o.addresses == address_cycles o.opener)
    (no_closer o.opener d (or_parts (ltb o.addresses (address_cycles o.opener)) (wants_closer o.opener) h).1)

wants_opened : (t : TailFacts) (d : Command) → IsEnded t → opened (λ c n. closes c d && n == address_cycles c) t.opening ≡ false
wants_opened t d e = closed_none d t.opening e.opening

ended_command : (t : TailFacts) (d : Command) → IsEnded t → wants_command t d ≡ false
ended_command t ChangeWriteColumn e = rw e.phase refl
ended_command t ProgramConfirm e = rw e.phase refl
ended_command t ProgramPlane e = rw e.phase refl
ended_command t ProgramCache e = rw e.phase refl
ended_command t d e = wants_opened t d e

addressed_none : (byte : ℕ) (o : Option Opening) → opened goes_on_by o ≡ false → opened (λ c n. is_opener c && ltb n (address_cycles c) && takes_address c byte) o ≡ false
addressed_none byte None h = refl
addressed_none byte (Some o) h =
    first_false (is_opener o.opener) (ltb o.addresses (address_cycles o.opener)) (takes_address o.opener byte)
    (or_parts (ltb o.addresses (address_cycles o.opener)) (wants_closer o.opener) h).0

ended_address : (t : TailFacts) (byte : ℕ) → IsEnded t → wants_address t byte ≡ false
ended_address t byte e = ap (λ b. b || wants_column t.phase) (addressed_none byte t.opening e.opening) ∙ ap wants_column e.phase

-- an ended tail wants nothing
pub ended_wants : (t : TailFacts) (c : TargetCycle) → IsEnded t → wants t c ≡ false
ended_wants t (CommandCycle c) e = ended_command t c e
ended_wants t (AddressCycle byte) e = ended_address t byte e
ended_wants t (InputCycle byte) e = rw e.phase refl
ended_wants t OutputCycle e = refl

pub nothing_ended : IsEnded (facts_of [])
nothing_ended = record { phase = refl; opening = refl }

-- an output ends a tail
pub output_ended : (t : List TargetCycle) → IsEnded (facts_of (with_cycle OutputCycle t))
output_ended [] = record { phase = refl; opening = refl }
output_ended (c ∷ t) = record { phase = refl; opening = refl }

after_none : (c : Command) → phase_after_command c Outside ≡ Outside
after_none ChangeWriteColumn = refl
after_none c = refl

pub after_last : (o : Option Opening) (y : Opening) → o ≡ Some y → begins_data y.opener ≡ false → is_set_features y.opener ≡ false → phase_after_last_address o ≡ Outside
after_last o y is program features = ap phase_after_last_address is ∙ rw (program, features) refl

-- a sequence that is no program, and sets no features, has no data while it has its opener and addresses alone
pub outside_opening : (t : List TargetCycle) (o : Opening) → opening t ≡ Some o → begins_data o.opener ≡ false → is_set_features o.opener ≡ false → data_phase t ≡ Outside
outside_opening [] o h program features = refl
outside_opening (CommandCycle c ∷ []) o h program features = after_none c
outside_opening (CommandCycle c ∷ (d ∷ t)) o h program features = cc
outside_opening (AddressCycle byte ∷ t) o h program features =
    let less = one_less (opening t) o h in
    let y = less.0 in
    let p : begins_data y.opener ≡ false = ap begins_data less.2 ∙ program in
    let f : is_set_features y.opener ≡ false = ap is_set_features less.2 ∙ features in
    ap (phase_after_address (opening t)) (outside_opening t y less.1 p f) ∙ after_last (opening t) y less.1 p f
outside_opening (InputCycle byte ∷ t) o h program features = cc
outside_opening (OutputCycle ∷ t) o h program features = cc

closer_ended : (c : Command) (t : List TargetCycle) → ((d : DataPhase) → phase_after_command c d ≡ Outside) → IsEnded (facts_of (continued (CommandCycle c) t))
closer_ended c [] outside = nothing_ended
closer_ended c (d ∷ t) outside = record { phase = outside (data_phase (d ∷ t)); opening = refl }

command_ended : (g : Parts) (past : List Item) (l : Lun) (c : Command) (t : List TargetCycle) → starts_by g past l (CommandCycle c) ≡ true → IsEnded (facts_of (with_cycle (CommandCycle c) t))
command_ended g past l Read t h = cc
command_ended g past l ReadStatus t h = absurd (neither_starts (is_shared g) _ _ refl refl h)
command_ended g past l ReadStatusEnhanced t h = cc
command_ended g past l ReadConfirm t h = closer_ended ReadConfirm t (λ d. refl)
command_ended g past l BlockEraseConfirm t h = closer_ended BlockEraseConfirm t (λ d. refl)
command_ended g past l BlockErasePlane t h = closer_ended BlockErasePlane t (λ d. refl)
command_ended g past l ReadPlane t h = closer_ended ReadPlane t (λ d. refl)
command_ended g past l CopybackRead t h = closer_ended CopybackRead t (λ d. refl)
command_ended g past l ProgramCache t h = closer_ended ProgramCache t (λ d. refl)
command_ended g past l ProgramConfirm t h = closer_ended ProgramConfirm t (λ d. refl)
command_ended g past l ProgramPlane t h = closer_ended ProgramPlane t (λ d. refl)
command_ended g past l ChangeReadColumnConfirm t h = closer_ended ChangeReadColumnConfirm t (λ d. refl)
command_ended g past l Reset t h = record { phase = refl; opening = refl }
command_ended g past l SynchronousReset t h = record { phase = refl; opening = refl }
command_ended g past l ReadCacheSequential t h = at (wants_command (facts_of t) ReadCacheSequential)
  where
    at : (w : Bool) → IsEnded (facts_of (cond (true && not w) (CommandCycle ReadCacheSequential ∷ []) (continued (CommandCycle ReadCacheSequential) t)))
    at true = closer_ended ReadCacheSequential t (λ d. refl)
    at false = record { phase = refl; opening = refl }
command_ended g past l ReadCacheEnd t h = record { phase = refl; opening = refl }
command_ended g past l c t h = absurd (neither_starts (wants_command (facts_of (tail past l.ce)) c && names_lun g (row (facts_of (tail past l.ce))) l.lun) Unaffected (other_effect g (facts_of (tail past l.ce)) c) refl (other_starts g (facts_of (tail past l.ce)) c) h)

-- an opener that an address ends by which work starts
record EndsBy (c : Command) (n : ℕ) : Type 0 where
  over : goes_on_by c (n + 1) ≡ false
  program : begins_data c ≡ false
  features : is_set_features c ≡ false

past_one : (n : ℕ) → ltb (n + 1) 1 ≡ false
past_one n = grind (arith, nat_tests)

one_false : (n : ℕ) → (ltb (n + 1) 1 || false) ≡ false
one_false n = ap (λ b. b || false) (past_one n)

first_true : (a : Bool) (x : Effect) → starts (cond a x Unaffected) ≡ true → a ≡ true
first_true true x h = refl
first_true false x h = cc

address_ends : (g : Parts) (t : TailFacts) (byte : ℕ) (c : Command) (n lun : ℕ) → starts (address_effect g t byte c n lun) ≡ true → EndsBy c n
address_ends g t byte ReadStatusEnhanced n lun h = absurd (neither_starts (n == 2) _ _ (either_false starts (names_lun g (row_with t byte) lun) _ _ refl refl) refl h)
address_ends g t byte ReadId n lun h = absurd (neither_starts (wants_address t byte) _ _ (target_starts g lun _ (either_false starts (byte == 0x20) IdRead (IdentityRead (byte == 0x40)) refl refl)) refl h)
address_ends g t byte ReadParameterPage n lun h = record { over = one_false n; program = refl; features = refl }
address_ends g t byte ReadUniqueId n lun h = record { over = one_false n; program = refl; features = refl }
address_ends g t byte GetFeatures n lun h = record { over = one_false n; program = refl; features = refl }
address_ends g t byte ResetLun n lun h =
    record { over = ap (λ m. ltb (m + 1) 3 || false) (eqb-true n 2 (first_true (n == 2) _ h)); program = refl; features = refl }
address_ends g t byte PageProgram n lun h = absurd (neither_starts (n == 4) _ _ (either_false starts (names_lun g (row_with t byte) lun) _ _ refl refl) refl h)
address_ends g t byte c n lun h = cc

address_ended : (g : Parts) (past : List Item) (l : Lun) (byte : ℕ) (t : List TargetCycle) (o : Option Opening) → opening t ≡ o →
    starts (opening_address_effect g (facts_of (tail past l.ce)) byte o l.lun) ≡ true → IsEnded (facts_of (continued (AddressCycle byte) t))
address_ended g past l byte t None is h = cc
address_ended g past l byte [] (Some o) is h = nothing_ended
address_ended g past l byte (d ∷ t) (Some o) is h =
    let ends = address_ends g (facts_of (tail past l.ce)) byte o.opener o.addresses l.lun h in
    record {
      phase =
          ap (phase_after_address (opening (d ∷ t))) (outside_opening (d ∷ t) o is ends.program ends.features)
          ∙ after_last (opening (d ∷ t)) o is ends.program ends.features;
      opening = ap (λ x. opened goes_on_by (one_address_more x)) is ∙ ends.over;
    }

input_ended : (byte : ℕ) (t : List TargetCycle) → ends_features (facts_of t) ≡ true → IsEnded (facts_of (continued (InputCycle byte) t))
input_ended byte [] h = nothing_ended
input_ended byte (d ∷ t) h = record { phase = at (data_phase (d ∷ t)) (and_parts _ _ h).0; opening = refl }
  where
    three : inputs (d ∷ t) ≡ 3
    three = eqb-true (inputs (d ∷ t)) 3 (and_parts (takes_features (data_phase (d ∷ t))) (inputs (d ∷ t) == 3) h).1

    at : (p : DataPhase) → takes_features p ≡ true → phase_after_input (inputs (d ∷ t)) p ≡ Outside
    at FeatureInputs e = ap (λ n. cond (ltb n 3) FeatureInputs Outside) three
    at Outside e = cc
    at Inputs e = cc
    at FirstColumn e = cc
    at SecondColumn e = cc

started_features : (b : Bool) (x : Effect) → starts (cond b x Unaffected) ≡ true → b ≡ true
started_features true x h = refl
started_features false x h = cc

-- where work starts a sequence ends
pub starts_ended : (g : Parts) (past : List Item) (l : Lun) (c : TargetCycle) → starts_by g past l c ≡ true → IsEnded (facts_of (with_cycle c (tail past l.ce)))
starts_ended g past l (CommandCycle c) h = command_ended g past l c (tail past l.ce) h
starts_ended g past l (AddressCycle byte) h = address_ended g past l byte (tail past l.ce) (opening (tail past l.ce)) refl h
starts_ended g past l (InputCycle byte) h = input_ended byte (tail past l.ce) (started_features _ _ h)
starts_ended g past l OutputCycle h = output_ended (tail past l.ce)
