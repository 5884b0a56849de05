-- In the base profile nothing is held where something is queued, so that no group of copybacks begins.
use Rattle.std.proofs.Common.{◌≡◌, ℕ, ◌<◌, ◌≤◌, ◌%◌, ◌==◌, Bool, true, false, ◌&&◌, ◌||◌, cond, not, ltb, List, [], ◌∷◌, Option, Some, None, refl, sym, ap, subst, ◌∙◌, eqb-true, arith}
use Rattle.std.proofs.lemmas.Bool.{and_parts, not-false, or_left}
use Rattle.std.proofs.lemmas.Bool.Decides.{nat_tests}
use Rattle.std.specs.List.{slice_get}
use Rattle.nand_geometry.specs.declared.parts.Parts.{Parts}
use Rattle.nand_geometry.specs.Row.{parts_of, row_of}
use Rattle.onfi_cycle.specs.declared.command.Command.{Command}
use Rattle.onfi_cycle.specs.declared.command.Command.TheVariants.{Read, ReadConfirm, ReadPlane, CopybackRead, PageProgram, ChangeWriteColumn, ReadStatus, ReadStatusEnhanced, Reset, SynchronousReset, ReadCacheSequential, ReadCacheEnd, ChangeReadColumnConfirm, BlockEraseConfirm, BlockErasePlane, ProgramConfirm, ProgramPlane, ReadId, ReadParameterPage, ReadUniqueId, GetFeatures, ResetLun, ProgramCache}
use Rattle.onfi_cycle.specs.declared.data_phase.DataPhase.{DataPhase}
use Rattle.onfi_cycle.specs.declared.data_phase.DataPhase.TheVariants.{Outside, Inputs, FirstColumn, SecondColumn, FeatureInputs}
use Rattle.onfi_cycle.specs.declared.effect.Effect.{Effect}
use Rattle.onfi_cycle.specs.declared.effect.Effect.TheVariants.{Unaffected, StatusSelected, StatusOfSelected, SelectedForStatus, Deselected, ReadStarted, ReadQueued, CopybackReadStarted, ProgramAddressed, EraseStarted, ProgramStarted, IdRead, IdentityRead, UniqueIdReadStarted, FeaturesReadStarted, FeaturesSet, ParameterPageReadStarted, CacheReadContinued, CacheReadEnded, ReadColumnChanged, PlaneSelected, DataOutput, ResetStarted, TargetResetStarted, BecameReady, ArrayBecameReady, AnotherAddressed, CacheProgramStarted}
use Rattle.onfi_cycle.specs.declared.item.Item.{Item}
use Rattle.onfi_cycle.specs.declared.item.Item.TheVariants.{Cyc, Rdy, Ard}
use Rattle.onfi_cycle.specs.declared.latch.Latch.{Latch}
use Rattle.onfi_cycle.specs.declared.latch.Latch.TheVariants.{Off}
use Rattle.onfi_cycle.specs.declared.lun.Lun.{Lun}
use Rattle.onfi_cycle.specs.declared.opening.Opening.{Opening}
use Rattle.onfi_cycle.specs.declared.page_address.PageAddress.{PageAddress}
use Rattle.onfi_cycle.specs.declared.queued.Queued.{Queued}
use Rattle.onfi_cycle.specs.declared.tail_facts.TailFacts.{TailFacts}
use Rattle.onfi_cycle.specs.declared.target_cycle.TargetCycle.{TargetCycle}
use Rattle.onfi_cycle.specs.declared.target_cycle.TargetCycle.TheVariants.{CommandCycle, AddressCycle, InputCycle, OutputCycle}
use Rattle.onfi_cycle.specs.LunView.{LunView}
use Rattle.onfi_cycle.specs.Base.{is_of_base}
use Rattle.onfi_cycle.specs.Bounds.{names_program}
use Rattle.onfi_cycle.specs.Command.{closes_row, reads_row, is_page_program}
use Rattle.onfi_cycle.specs.Sequence.{target_cycle, tail, facts_of, takes_data, wants_column, wants_command, wants_address, row, row_with, row_after_address, selects_plane, phase_after_command}
use Rattle.onfi_cycle.specs.Effect.{program_row_effect, is_off, is_data, is_shared, acts_for_target, of_target, id_effect, lun_reset_effect, names_lun, ends_features, plane_of_row, plane_effect, column_effect, cache_effect, confirm_effect, other_effect, row_effect, command_effect, input_effect, address_effect, opening_address_effect, cycle_effect}
use Rattle.onfi_cycle.specs.Lun.{is_page_read, is_copyback_read, is_cache_read, closer_after, queue_after, held_after, queue, held, latch_alone, effect_on, effect_among, lun_view, luns_of}
use Rattle.onfi_cycle.specs.Rules.{named_lun_is, is_some_and, continues_cache, ends_cache, has_some, has_read_one, is_copying, holds_none, breaks_cache_read_misplaced, breaks_sequence_open}
use Rattle.onfi_cycle.specs.State.{has_driver}
use Rattle.onfi_cycle.specs.Permitted.{broken, is_legal}
use Rattle.onfi_cycle.proofs.Booleans.{clash}
use Rattle.onfi_cycle.proofs.EffectBounds.{alone_drives, driver_passes}
use Rattle.onfi_cycle.proofs.Following.{alone_by_views, lun_beyond}
use Rattle.onfi_cycle.proofs.Keeping.{view_at}
use Rattle.onfi_cycle.proofs.Others.{chosen_else}
use Rattle.onfi_cycle.proofs.Passed.{KeepsRules, permitted_keeps}
use Rattle.onfi_profiles.specs.Widening.{in_base}
use Rattle.onfi_profiles.specs.Tails.{base_begins_sequence, base_phase_after_address, base_phase_after_input, base_extended_facts, base_facts_after, base_facts}
use Rattle.onfi_profiles.proofs.OldTails.{AreOfBase, is_base_cycle, base_cycle, facts_base, tails_kept}
use Rattle.onfi_profiles.proofs.Few.{brings_pages, item_queues}
use Rattle.onfi_profiles.proofs.Pasts.{both_legal}
use Rattle.onfi_profiles.proofs.Unwanted.{unwanted}

-- 1. what an effect leaves of the queue and of the pages

abbrev reads_on : Effect → Bool
reads_on (CacheReadContinued to) = true
reads_on CacheReadEnded = true
reads_on e = false

abbrev programs : Effect → Bool
programs (ProgramStarted queued at) = true
programs e = false

-- a LUN with a queue holds no page, and its last closer has read none
record IsApart (v : LunView) : Type 0 where
  read : is_page_read v.closer ≡ true → v.queue ≡ []
  none : has_some v.queue ≡ true → v.held ≡ []

abbrev Leaves : Effect → (copyback : Bool) → LunView → Type 0
Leaves e copyback v =
    (is_page_read (closer_after e v.closer) ≡ true → queue_after e v.queue ≡ [])
    × (has_some (queue_after e v.queue) ≡ true → held_after e copyback v.array_page v.queue v.held ≡ [])

empty_has_none : (queue : List Queued) → queue ≡ [] → has_some queue ≡ false
empty_has_none queue h = ap has_some h

left_by : (e : Effect) (copyback : Bool) (v : LunView) → brings_pages e ≡ false → (reads_on e ≡ true → v.queue ≡ []) → (programs e ≡ true → v.held ≡ []) → IsApart v → Leaves e copyback v
left_by (ReadStarted at from) copyback v b r p a = (λ h. refl, λ h. cc)
left_by (ReadQueued at) copyback v b r p a = cc
left_by (CopybackReadStarted at from count) copyback v b r p a = cc
left_by (CacheProgramStarted at) copyback v b r p a = cc
left_by ProgramAddressed copyback v b r p a = (a.read, λ h. refl)
left_by (EraseStarted true at) copyback v b r p a = (λ h. cc, λ h. refl)
left_by (EraseStarted false at) copyback v b r p a = (λ h. refl, λ h. cc)
left_by (ProgramStarted true at) copyback v b r p a = (λ h. cc, λ h. p refl)
left_by (ProgramStarted false at) copyback v b r p a = (λ h. refl, λ h. cc)
left_by (CacheReadContinued to) copyback v b r p a = (λ h. r refl, λ h. absurd (clash (has_some v.queue) h (empty_has_none v.queue (r refl))))
left_by CacheReadEnded copyback v b r p a = (λ h. cc, λ h. absurd (clash (has_some v.queue) h (empty_has_none v.queue (r refl))))
left_by IdRead copyback v b r p a = (λ h. cc, λ h. refl)
left_by (IdentityRead jedec) copyback v b r p a = (λ h. cc, λ h. refl)
left_by ParameterPageReadStarted copyback v b r p a = (λ h. cc, λ h. refl)
left_by UniqueIdReadStarted copyback v b r p a = (λ h. cc, λ h. refl)
left_by (FeaturesReadStarted address) copyback v b r p a = (λ h. cc, λ h. refl)
left_by (FeaturesSet address) copyback v b r p a = (λ h. cc, λ h. refl)
left_by ResetStarted copyback v b r p a = (λ h. refl, λ h. cc)
left_by (TargetResetStarted first) copyback v b r p a = (λ h. refl, λ h. cc)
left_by e copyback v b r p a = (a.read, a.none)

-- 2. what a cycle does: it reads on behind a read, and programs what the tail names

record May (g : Parts) (t : TailFacts) (n : ℕ) (v : LunView) (e : Effect) : Type 0 where
  reads : reads_on e ≡ true → is_page_read v.closer ≡ true
  named : programs e ≡ true → (names_program t ≡ true) × (names_lun g (row t) n ≡ true)

idle : (g : Parts) (t : TailFacts) (n : ℕ) (v : LunView) (e : Effect) → reads_on e ≡ false → programs e ≡ false → May g t n v e
idle g t n v e r p = record { reads = λ h. absurd (clash (reads_on e) h r); named = λ h. absurd (clash (programs e) h p) }

rests : (g : Parts) (t : TailFacts) (n : ℕ) (v : LunView) → May g t n v Unaffected
rests g t n v = idle g t n v Unaffected refl refl

either : (g : Parts) (t : TailFacts) (n : ℕ) (v : LunView) (b : Bool) (x y : Effect) → (b ≡ true → May g t n v x) → (b ≡ false → May g t n v y) → May g t n v (cond b x y)
either g t n v true x y h k = h refl
either g t n v false x y h k = k refl

other_may : (g : Parts) (t : TailFacts) (n : ℕ) (v : LunView) (c : Command) → May g t n v (other_effect g t c)
other_may g t n v c =
    either g t n v (closes_row c && (wants_command t c && is_shared g)) (AnotherAddressed (reads_row c)) Unaffected
    (λ h. idle g t n v (AnotherAddressed (reads_row c)) refl refl) (λ h. rests g t n v)

row_may : (g : Parts) (t : TailFacts) (n : ℕ) (v : LunView) (c : Command) → ((wants_command t c && names_lun g (row t) n) ≡ true → May g t n v (confirm_effect g t c)) → May g t n v (row_effect g t c n)
row_may g t n v c h = either g t n v (wants_command t c && names_lun g (row t) n) (confirm_effect g t c) (other_effect g t c) h (λ e. other_may g t n v c)

read_one : (g : Parts) (v : LunView) → continues_cache g v ≡ true → is_page_read v.closer ≡ true
read_one g v h = (and_parts (is_page_read v.closer) _ (and_parts (has_read_one v) _ (and_parts (not v.busy) _ h).1).0).0

cached_read : (c : Option Command) → is_cache_read c ≡ true → is_page_read c ≡ true
cached_read (Some ReadCacheSequential) h = refl
cached_read (Some c) h = cc
cached_read None h = cc

command_may : (g : Parts) (t : TailFacts) (luns : List LunView) (n : ℕ) (v : LunView) → slice_get luns n ≡ Some v → (c : Command) → is_of_base c ≡ true → (c ≡ ReadCacheSequential → wants_command t ReadCacheSequential ≡ false) → breaks_cache_read_misplaced g t luns (CommandCycle c) ≡ false → May g t n v (command_effect g t (cond (has_driver luns) v.latch Off) c n)
unfolding breaks_cache_read_misplaced
command_may g t luns n v found Read b alone f15 = idle g t n v _ refl refl
command_may g t luns n v found ReadStatus b alone f15 = either g t n v (is_shared g) StatusOfSelected StatusSelected (λ e. idle g t n v _ refl refl) (λ e. idle g t n v _ refl refl)
command_may g t luns n v found ReadStatusEnhanced b alone f15 = idle g t n v _ refl refl
command_may g t luns n v found Reset b alone f15 = either g t n v (is_shared g) (TargetResetStarted (n == 0)) ResetStarted (λ e. idle g t n v _ refl refl) (λ e. idle g t n v _ refl refl)
command_may g t luns n v found SynchronousReset b alone f15 = cc
command_may g t luns n v found ReadCacheSequential b alone f15 =
    either g t n v (wants_command t ReadCacheSequential) (row_effect g t ReadCacheSequential n) (cache_effect (cond (has_driver luns) v.latch Off))
    (λ w. absurd (clash (wants_command t ReadCacheSequential) w (alone refl)))
    (λ w. either g t n v (is_off (cond (has_driver luns) v.latch Off)) Unaffected (CacheReadContinued None) (λ e. rests g t n v)
    (λ on. record {
      reads = λ h. read_one g v (sym (driver_passes (continues_cache g) luns v (alone_drives luns n v found on)) ∙ not-false _ (chosen_else (wants_command t ReadCacheSequential) _ _ f15 w));
      named = λ h. cc;
    }))
command_may g t luns n v found ReadCacheEnd b alone f15 =
    either g t n v (is_off (cond (has_driver luns) v.latch Off)) Unaffected CacheReadEnded (λ e. rests g t n v)
    (λ on. record {
      reads = λ h. cached_read v.closer (and_parts (not v.busy) _ (sym (driver_passes ends_cache luns v (alone_drives luns n v found on)) ∙ not-false _ f15)).1;
      named = λ h. cc;
    })
command_may g t luns n v found ChangeReadColumnConfirm b alone f15 =
    either g t n v (selects_plane t) (plane_effect g t n) (column_effect t (cond (has_driver luns) v.latch Off))
    (λ e. either g t n v (names_lun g (row t) n) (PlaneSelected (plane_of_row g (row t)) _ t.column) Deselected (λ e. idle g t n v _ refl refl) (λ e. idle g t n v _ refl refl))
    (λ e. either g t n v (wants_command t ChangeReadColumnConfirm && not (is_off (cond (has_driver luns) v.latch Off))) (ReadColumnChanged t.column) Unaffected (λ e. idle g t n v _ refl refl) (λ e. rests g t n v))
command_may g t luns n v found ReadConfirm b alone f15 = row_may g t n v ReadConfirm (λ h. idle g t n v _ refl refl)
command_may g t luns n v found ReadPlane b alone f15 = cc
command_may g t luns n v found CopybackRead b alone f15 = cc
command_may g t luns n v found ProgramCache b alone f15 = cc
command_may g t luns n v found BlockEraseConfirm b alone f15 = row_may g t n v BlockEraseConfirm (λ h. idle g t n v _ refl refl)
command_may g t luns n v found BlockErasePlane b alone f15 = row_may g t n v BlockErasePlane (λ h. idle g t n v _ refl refl)
command_may g t luns n v found ProgramConfirm b alone f15 =
    row_may g t n v ProgramConfirm (λ h. record { reads = λ e. cc; named = λ e. (or_left (takes_data t.phase) (wants_column t.phase) (and_parts (takes_data t.phase) _ h).0, (and_parts (takes_data t.phase) _ h).1) })
command_may g t luns n v found ProgramPlane b alone f15 =
    row_may g t n v ProgramPlane (λ h. record { reads = λ e. cc; named = λ e. (or_left (takes_data t.phase) (wants_column t.phase) (and_parts (takes_data t.phase) _ h).0, (and_parts (takes_data t.phase) _ h).1) })
command_may g t luns n v found c b alone f15 = row_may g t n v c (λ h. rests g t n v)

target_may : (g : Parts) (t : TailFacts) (n : ℕ) (v : LunView) (e : Effect) → reads_on e ≡ false → programs e ≡ false → May g t n v (of_target g n e)
target_may g t n v e r p = either g t n v (acts_for_target g n) e Deselected (λ h. idle g t n v e r p) (λ h. idle g t n v Deselected refl refl)

id_may : (g : Parts) (t : TailFacts) (n : ℕ) (v : LunView) (byte : ℕ) → May g t n v (of_target g n (id_effect byte))
id_may g t n v byte =
    either g t n v (acts_for_target g n) (id_effect byte) Deselected
    (λ h. either g t n v (byte == 0x20) IdRead (IdentityRead (byte == 0x40)) (λ e. idle g t n v _ refl refl) (λ e. idle g t n v _ refl refl))
    (λ h. idle g t n v Deselected refl refl)

address_may : (g : Parts) (t : TailFacts) (n : ℕ) (v : LunView) (byte : ℕ) (c : Command) (k : ℕ) → May g t n v (address_effect g t byte c k n)
address_may g t n v byte ReadStatusEnhanced k =
    either g t n v (k == 2) (cond (names_lun g (row_with t byte) n) SelectedForStatus Deselected) Unaffected
    (λ h. either g t n v (names_lun g (row_with t byte) n) SelectedForStatus Deselected (λ e. idle g t n v _ refl refl) (λ e. idle g t n v _ refl refl)) (λ h. rests g t n v)
address_may g t n v byte ReadId k = either g t n v (wants_address t byte) (of_target g n (id_effect byte)) Unaffected (λ h. id_may g t n v byte) (λ h. rests g t n v)
address_may g t n v byte ReadParameterPage k = either g t n v (wants_address t byte) (of_target g n ParameterPageReadStarted) Unaffected (λ h. target_may g t n v ParameterPageReadStarted refl refl) (λ h. rests g t n v)
address_may g t n v byte ReadUniqueId k = either g t n v (wants_address t byte) (of_target g n UniqueIdReadStarted) Unaffected (λ h. target_may g t n v UniqueIdReadStarted refl refl) (λ h. rests g t n v)
address_may g t n v byte GetFeatures k = either g t n v (wants_address t byte) (of_target g n (FeaturesReadStarted byte)) Unaffected (λ h. target_may g t n v (FeaturesReadStarted byte) refl refl) (λ h. rests g t n v)
address_may g t n v byte ResetLun k =
    either g t n v (k == 2) (lun_reset_effect g (names_lun g (row_with t byte) n)) Unaffected
    (λ h. either g t n v (names_lun g (row_with t byte) n) ResetStarted (cond (is_shared g) (AnotherAddressed false) Unaffected) (λ e. idle g t n v _ refl refl)
    (λ e. either g t n v (is_shared g) (AnotherAddressed false) Unaffected (λ e. idle g t n v _ refl refl) (λ e. rests g t n v))) (λ h. rests g t n v)
address_may g t n v byte PageProgram k =
    either g t n v (k == 4) (program_row_effect (names_lun g (row_with t byte) n)) Unaffected
    (λ h. either g t n v (names_lun g (row_with t byte) n) ProgramAddressed Unaffected (λ e. idle g t n v _ refl refl) (λ e. rests g t n v)) (λ h. rests g t n v)
address_may g t n v byte c k = rests g t n v

cycle_may : (g : Parts) (t : TailFacts) (luns : List LunView) (n : ℕ) (v : LunView) → slice_get luns n ≡ Some v → (k : TargetCycle) → is_base_cycle k ≡ true → (k ≡ CommandCycle ReadCacheSequential → wants_command t ReadCacheSequential ≡ false) → breaks_cache_read_misplaced g t luns k ≡ false → May g t n v (cycle_effect g t (cond (has_driver luns) v.latch Off) k n)
cycle_may g t luns n v found (CommandCycle c) b alone f15 = command_may g t luns n v found c b (λ is. alone (ap CommandCycle is)) f15
cycle_may g t luns n v found (AddressCycle byte) b alone f15 = at t.opening
  where
    at : (o : Option Opening) → May g t n v (opening_address_effect g t byte o n)
    at None = rests g t n v
    at (Some o) = address_may g t n v byte o.opener o.addresses
cycle_may g t luns n v found (InputCycle byte) b alone f15 = either g t n v (ends_features t) (of_target g n (FeaturesSet _)) Unaffected (λ h. target_may g t n v (FeaturesSet _) refl refl) (λ h. rests g t n v)
cycle_may g t luns n v found OutputCycle b alone f15 = either g t n v (is_data (cond (has_driver luns) v.latch Off)) DataOutput Unaffected (λ h. idle g t n v _ refl refl) (λ h. rests g t n v)

-- 3. an open program: its LUN holds nothing

abbrev HoldsNone : Parts → TailFacts → ℕ → List PageAddress → Type 0
HoldsNone g t n held = names_program t ≡ true → names_lun g (row t) n ≡ true → held ≡ []

no_data_begun : (c : Command) → (takes_data (phase_after_command c Outside) || wants_column (phase_after_command c Outside)) ≡ false
no_data_begun ChangeWriteColumn = refl
no_data_begun c = refl

-- a command in the data is 85, which does nothing
command_holds : (g : Parts) (t : TailFacts) (n : ℕ) (la : Latch) (c : Command) (copyback : Bool) (p : PageAddress) (q : List Queued) (h : List PageAddress) → HoldsNone g t n h → (takes_data (phase_after_command c t.phase) || wants_column (phase_after_command c t.phase)) ≡ true → names_lun g (row t) n ≡ true → held_after (command_effect g t la c n) copyback p q h ≡ []
command_holds g t n la ChangeWriteColumn copyback p q h before named here = neither (wants_command t ChangeWriteColumn && names_lun g (row t) n) ∙ at t.phase refl named
  where
    neither : (b : Bool) → held_after (cond b Unaffected Unaffected) copyback p q h ≡ h
    neither true = refl
    neither false = refl

    at : (x : DataPhase) → t.phase ≡ x → (takes_data (phase_after_command ChangeWriteColumn x) || wants_column (phase_after_command ChangeWriteColumn x)) ≡ true → h ≡ []
    at Inputs e named = before (ap (λ (y : DataPhase). takes_data y || wants_column y) e) here
    at Outside e named = cc
    at FirstColumn e named = cc
    at SecondColumn e named = cc
    at FeatureInputs e named = cc
command_holds g t n la c copyback p q h before named here = cc

-- the last address of the row of an 80 lets nothing be held; the others of its data do nothing
address_holds : (g : Parts) (t : TailFacts) (n byte : ℕ) (copyback : Bool) (p : PageAddress) (q : List Queued) (h : List PageAddress) → AreOfBase t → HoldsNone g t n h → names_program (base_extended_facts (AddressCycle byte) t) ≡ true → names_lun g (row (base_extended_facts (AddressCycle byte) t)) n ≡ true
    → held_after (opening_address_effect g t byte t.opening n) copyback p q h ≡ []
address_holds g t n byte copyback p q h a before = at t.opening t.phase refl refl
  where
    Holds : Option Opening → DataPhase → Type 0
    Holds o x =
        (takes_data (base_phase_after_address o x) || wants_column (base_phase_after_address o x)) ≡ true
        → names_lun g (row_of (row_after_address o byte t.row).r1 (row_after_address o byte t.row).r2 (row_after_address o byte t.row).r3) n ≡ true
        → held_after (opening_address_effect g t byte o n) copyback p q h ≡ []

    whole : (four here : Bool) → four ≡ true → here ≡ true → held_after (cond four (program_row_effect here) Unaffected) copyback p q h ≡ []
    whole true true e m = refl
    whole true false e m = cc
    whole false here e m = cc

    data_at : (b : Bool) → (takes_data (cond b Inputs Outside) || wants_column (cond b Inputs Outside)) ≡ true → b ≡ true
    data_at true e = refl
    data_at false e = cc

    kind : (c : Command) (k : ℕ) → (takes_data (cond (is_page_program c && k == 4) Inputs Outside) || wants_column (cond (is_page_program c && k == 4) Inputs Outside)) ≡ true → names_lun g (row_with t byte) n ≡ true → held_after (address_effect g t byte c k n) copyback p q h ≡ []
    kind PageProgram k named here = whole (k == 4) (names_lun g (row_with t byte) n) (data_at (k == 4) named) here
    kind c k named here = cc

    none_there : (o : Opening) → t.opening ≡ Some o → wants_column t.phase ≡ true → ⊥
    none_there o e w = let no : Some o ≡ None = sym e ∙ a.alone w in cc

    at : (o : Option Opening) (x : DataPhase) → t.opening ≡ o → t.phase ≡ x → Holds o x
    at None Outside eo ex = λ named here. cc
    at (Some o) Outside eo ex = λ named here. kind o.opener o.addresses named here
    at None FirstColumn eo ex = λ named here. before (ap (λ (y : DataPhase). takes_data y || wants_column y) ex) here
    at None SecondColumn eo ex = λ named here. before (ap (λ (y : DataPhase). takes_data y || wants_column y) ex) here
    at (Some o) FirstColumn eo ex = λ named here. absurd (none_there o eo (ap wants_column ex))
    at (Some o) SecondColumn eo ex = λ named here. absurd (none_there o eo (ap wants_column ex))
    at o Inputs eo ex = λ named here. cc
    at o FeatureInputs eo ex = λ named here. cc

input_holds : (g : Parts) (t : TailFacts) (n byte : ℕ) (copyback : Bool) (p : PageAddress) (q : List Queued) (h : List PageAddress) → AreOfBase t → HoldsNone g t n h → names_program (base_extended_facts (InputCycle byte) t) ≡ true → names_lun g (row t) n ≡ true → held_after (input_effect g t n) copyback p q h ≡ []
input_holds g t n byte copyback p q h a before named here =
    ap (λ (b : Bool). held_after (cond (b && t.inputs == 3) (of_target g n (FeaturesSet (t.column % 256))) Unaffected) copyback p q h) a.phase ∙ at t.phase refl named
  where
    at : (x : DataPhase) → t.phase ≡ x → (takes_data (base_phase_after_input x) || wants_column (base_phase_after_input x)) ≡ true → h ≡ []
    at Inputs e named = before (ap (λ (y : DataPhase). takes_data y || wants_column y) e) here
    at Outside e named = cc
    at FirstColumn e named = cc
    at SecondColumn e named = cc
    at FeatureInputs e named = cc

extended_holds : (g : Parts) (t : TailFacts) (n : ℕ) (la : Latch) (k : TargetCycle) (copyback : Bool) (p : PageAddress) (q : List Queued) (h : List PageAddress) → AreOfBase t → HoldsNone g t n h → HoldsNone g (base_extended_facts k t) n (held_after (cycle_effect g t la k n) copyback p q h)
extended_holds g t n la (CommandCycle c) copyback p q h a before = λ named here. command_holds g t n la c copyback p q h before named here
extended_holds g t n la (AddressCycle byte) copyback p q h a before = λ named here. address_holds g t n byte copyback p q h a before named here
extended_holds g t n la (InputCycle byte) copyback p q h a before = λ named here. input_holds g t n byte copyback p q h a before named here
extended_holds g t n la OutputCycle copyback p q h a before = λ named here. cc

step_holds : (g : Parts) (t : TailFacts) (n : ℕ) (la : Latch) (k : TargetCycle) (copyback : Bool) (p : PageAddress) (q : List Queued) (h : List PageAddress) → AreOfBase t → HoldsNone g t n h → HoldsNone g (base_facts_after k t) n (held_after (cycle_effect g t la k n) copyback p q h)
step_holds g t n la k copyback p q h a before = at (base_begins_sequence k) t.is_empty refl refl
  where
    empty : t.is_empty ≡ true → names_program t ≡ true → ⊥
    empty e named = let no : false ≡ true = ap (λ (x : DataPhase). takes_data x || wants_column x) (sym (a.nothing e)) ∙ named in cc

    begun : (k : TargetCycle) → base_begins_sequence k ≡ true → names_program (base_extended_facts k (facts_of [])) ≡ true → ⊥
    begun (CommandCycle c) e named = clash _ named (no_data_begun c)
    begun (AddressCycle byte) e named = cc
    begun (InputCycle byte) e named = cc
    begun OutputCycle e named = cc

    at : (b e : Bool) → base_begins_sequence k ≡ b → t.is_empty ≡ e → HoldsNone g (cond b (base_extended_facts k (facts_of [])) (cond e t (base_extended_facts k t))) n (held_after (cycle_effect g t la k n) copyback p q h)
    at true e begins is = λ named here. absurd (begun k begins named)
    at false true begins is = λ named here. absurd (empty is named)
    at false false begins is = extended_holds g t n la k copyback p q h a before

-- 4. a past

record IsCalm (g : Parts) (past : List Item) (l : Lun) : Type 0 where
  apart : IsApart (lun_view (in_base g) past l)
  program : HoldsNone (in_base g) (base_facts past l.ce) l.lun (held (in_base g) past l)

item_may : (g : Parts) (targets : ℕ) (past : List Item) (i : Item) (l : Lun) → broken (in_base g) targets past i ≡ None → l.lun < g.luns → May (in_base g) (facts_of (tail past l.ce)) l.lun (lun_view (in_base g) past l) (effect_on (in_base g) past i l)
unfolding effect_among
item_may g targets past (Cyc c) l h low =
    either (in_base g) (facts_of (tail past l.ce)) l.lun (lun_view (in_base g) past l) (c.ce == l.ce) (cycle_effect (in_base g) (facts_of (tail past l.ce)) (latch_alone (in_base g) past l) (target_cycle c.kind c.byte) l.lun) Unaffected
    (λ e. here (eqb-true c.ce l.ce e)) (λ e. rests (in_base g) (facts_of (tail past l.ce)) l.lun (lun_view (in_base g) past l))
  where
    k : TargetCycle
    k = target_cycle c.kind c.byte

    keeps : KeepsRules (in_base g) (facts_of (tail past c.ce)) (luns_of (in_base g) past c.ce) k
    keeps = permitted_keeps (in_base g) targets past c h

    here : c.ce ≡ l.ce → May (in_base g) (facts_of (tail past l.ce)) l.lun (lun_view (in_base g) past l) (cycle_effect (in_base g) (facts_of (tail past l.ce)) (latch_alone (in_base g) past l) k l.lun)
    here same =
        let f3 = subst (λ (ce : ℕ). breaks_sequence_open (in_base g) (facts_of (tail past ce)) k ≡ false) same keeps.f3 in
        let f15 = subst (λ (ce : ℕ). breaks_cache_read_misplaced (in_base g) (facts_of (tail past ce)) (luns_of (in_base g) past ce) k ≡ false) same keeps.f15 in
        subst (λ (la : Latch). May (in_base g) (facts_of (tail past l.ce)) l.lun (lun_view (in_base g) past l) (cycle_effect (in_base g) (facts_of (tail past l.ce)) la k l.lun)) (sym (alone_by_views (in_base g) past l low))
        (cycle_may (in_base g) (facts_of (tail past l.ce)) (luns_of (in_base g) past l.ce) l.lun (lun_view (in_base g) past l) (view_at (in_base g) past l low) k (base_cycle g k keeps.f2)
        (λ is. unwanted (in_base g) (facts_of (tail past l.ce)) refl (subst (λ (x : TargetCycle). breaks_sequence_open (in_base g) (facts_of (tail past l.ce)) x ≡ false) is f3)) f15)
item_may g targets past (Rdy a b f) l h low = either (in_base g) _ l.lun _ (a == l.ce && b == l.lun) (BecameReady f) Unaffected (λ e. idle (in_base g) _ l.lun _ _ refl refl) (λ e. rests (in_base g) _ l.lun _)
item_may g targets past (Ard a b fail) l h low = either (in_base g) _ l.lun _ (a == l.ce && b == l.lun) (ArrayBecameReady fail) Unaffected (λ e. idle (in_base g) _ l.lun _ _ refl refl) (λ e. rests (in_base g) _ l.lun _)

still_held : (b : Bool) (e : Effect) (copyback : Bool) (p : PageAddress) (q : List Queued) (h : List PageAddress) → held_after e copyback p q h ≡ h → held_after (cond b e Unaffected) copyback p q h ≡ h
still_held true e copyback p q h k = k
still_held false e copyback p q h k = refl

item_holds : (g : Parts) (targets : ℕ) (past : List Item) (i : Item) (l : Lun) → is_legal (in_base g) targets past ≡ true → HoldsNone (in_base g) (base_facts past l.ce) l.lun (held (in_base g) past l) → HoldsNone (in_base g) (base_facts (i ∷ past) l.ce) l.lun (held (in_base g) (i ∷ past) l)
unfolding effect_among
item_holds g targets past (Rdy a b f) l legal before = λ named here. still_held (a == l.ce && b == l.lun) (BecameReady f) _ _ _ _ refl ∙ before named here
item_holds g targets past (Ard a b fail) l legal before = λ named here. still_held (a == l.ce && b == l.lun) (ArrayBecameReady fail) _ _ _ _ refl ∙ before named here
item_holds g targets past (Cyc c) l legal before = at (c.ce == l.ce)
  where
    v : LunView
    v = lun_view (in_base g) past l

    k : TargetCycle
    k = target_cycle c.kind c.byte

    Step : TailFacts → Bool → Type 0
    Step t b =
        HoldsNone (in_base g) (cond b (base_facts_after k (base_facts past l.ce)) (base_facts past l.ce)) l.lun
        (held_after (cond b (cycle_effect (in_base g) t (latch_alone (in_base g) past l) k l.lun) Unaffected) (is_copyback_read v.closer) v.array_page v.queue v.held)

    at : (b : Bool) → Step (facts_of (tail past l.ce)) b
    at true =
        subst (λ (t : TailFacts). Step t true) (sym (tails_kept g targets past l.ce legal))
        (step_holds (in_base g) (base_facts past l.ce) l.lun (latch_alone (in_base g) past l) k (is_copyback_read v.closer) v.array_page v.queue v.held (facts_base g targets past l.ce legal) before)
    at false = before

calm : (g : Parts) (targets : ℕ) (past : List Item) (l : Lun) → is_legal (in_base g) targets past ≡ true → l.lun < g.luns → IsCalm g past l
calm g targets [] l legal low = record { apart = record { read = λ h. refl; none = λ h. refl }; program = λ named here. refl }
calm g targets (i ∷ past) l legal low =
    let parts = both_legal (in_base g) targets past i legal in
    let before = calm g targets past l parts.1 low in
    let v = lun_view (in_base g) past l in
    let may = item_may g targets past i l parts.0 low in
    let same = tails_kept g targets past l.ce parts.1 in
    let left = left_by (effect_on (in_base g) past i l) (is_copyback_read v.closer) v (item_queues g targets past i l parts.0) (λ h. before.apart.read (may.reads h))
    (λ h. before.program (ap names_program (sym same) ∙ (may.named h).0) (ap (λ (t : TailFacts). names_lun (in_base g) (row t) l.lun) (sym same) ∙ (may.named h).1)) before.apart in
    record { apart = record { read = left.0; none = left.1 }; program = item_holds g targets past i l parts.1 before.program }

-- no group of copybacks has begun
pub no_copies : (g : Parts) (targets : ℕ) (past : List Item) (l : Lun) → is_legal (in_base g) targets past ≡ true → l.lun < g.luns → is_copying (lun_view (in_base g) past l) ≡ false
no_copies g targets past l legal low = at (has_some (queue (in_base g) past l)) refl
  where
    at : (b : Bool) → has_some (queue (in_base g) past l) ≡ b → (b && not (holds_none (held (in_base g) past l))) ≡ false
    at true e = ap (λ (h : List PageAddress). not (holds_none h)) ((calm g targets past l legal low).apart.none e)
    at false e = refl

pub none_copying : (g : Parts) (targets : ℕ) (past : List Item) (ce : ℕ) → is_legal (in_base g) targets past ≡ true → (r : ℕ) → named_lun_is g r is_copying (luns_of (in_base g) past ce) ≡ false
none_copying g targets past ce legal r = at (ltb (parts_of g r).lun g.luns) refl
  where
    n : ℕ
    n = (parts_of g r).lun

    at : (b : Bool) → ltb n g.luns ≡ b → is_some_and is_copying (slice_get (luns_of (in_base g) past ce) n) ≡ false
    at true e =
        let low : n < g.luns = grind (arith, nat_tests, e) in
        ap (is_some_and is_copying) (view_at (in_base g) past (record { ce = ce; lun = n }) low) ∙ no_copies g targets past (record { ce = ce; lun = n }) legal low
    at false e =
        let beyond : g.luns ≤ n = grind (arith, nat_tests, e) in
        ap (is_some_and is_copying) (lun_beyond (in_base g) past ce n beyond)
