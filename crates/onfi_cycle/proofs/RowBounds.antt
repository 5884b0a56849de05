-- The row that a tail names goes together with the queue of its LUN, from its last address to its closer.
use Rattle.std.proofs.Common.{◌≡◌, ℕ, suc, ◌+◌, ◌==◌, Bool, true, false, ◌&&◌, ◌||◌, cond, ltb, List, [], Option, Some, None, refl, sym, ap, ◌∙◌, arith, eqb-true, ◌%◌}
use Rattle.std.proofs.lemmas.Bool.Decides.{nat_tests}
use Rattle.std.specs.List.{slice_get}
use Rattle.std.proofs.Math.Bool.{and-false}
use Rattle.nand_geometry.specs.declared.parts.Parts.{Parts}
use Rattle.nand_geometry.specs.Row.{row_of, parts_of}
use Rattle.onfi_cycle.specs.declared.command.Command.{Command}
use Rattle.onfi_cycle.specs.declared.command.Command.TheVariants.{BlockErase, ReadStatusEnhanced, PageProgram, ChangeWriteColumn, ReadId, ReadParameterPage, ReadUniqueId, GetFeatures, ResetLun, Read}
use Rattle.onfi_cycle.specs.declared.data_phase.DataPhase.{DataPhase}
use Rattle.onfi_cycle.specs.declared.data_phase.DataPhase.TheVariants.{Outside, Inputs, FirstColumn, SecondColumn, FeatureInputs}
use Rattle.onfi_cycle.specs.declared.effect.Effect.{Effect}
use Rattle.onfi_cycle.specs.declared.effect.Effect.TheVariants.{Unaffected, SelectedForStatus, Deselected, IdRead, ParameterPageReadStarted, BecameReady, ArrayBecameReady, IdentityRead, UniqueIdReadStarted, FeaturesReadStarted, FeaturesSet, ProgramAddressed}
use Rattle.onfi_cycle.specs.declared.forbidden.Forbidden.TheVariants.{NotThere}
use Rattle.onfi_cycle.specs.declared.item.Item.{Item}
use Rattle.onfi_cycle.specs.declared.item.Item.TheVariants.{Cyc, Rdy, Ard}
use Rattle.onfi_cycle.specs.declared.latch.Latch.{Latch}
use Rattle.onfi_cycle.specs.declared.latch.Latch.TheVariants.{Off}
use Rattle.onfi_cycle.specs.declared.opening.Opening.{Opening}
use Rattle.onfi_cycle.specs.declared.page_address.PageAddress.{PageAddress}
use Rattle.onfi_cycle.specs.declared.queued.Queued.{Queued}
use Rattle.onfi_cycle.specs.declared.tail_facts.TailFacts.{TailFacts}
use Rattle.onfi_cycle.specs.declared.target_cycle.TargetCycle.{TargetCycle}
use Rattle.onfi_cycle.specs.declared.target_cycle.TargetCycle.TheVariants.{CommandCycle, AddressCycle, InputCycle, OutputCycle}
use Rattle.onfi_cycle.specs.LunView.{LunView}
use Rattle.onfi_cycle.specs.Command.{begins_data, at_last_row, is_set_features}
use Rattle.onfi_cycle.specs.Sequence.{target_cycle, begins_sequence, begins_anew, facts_of, facts_after, extended_facts, opened, one_address_more, row_after_address, takes_data, wants_column, wants_command, wants_address, phase_after_command, phase_after_address, phase_after_input, row, row_with, takes_features}
use Rattle.onfi_cycle.specs.Effect.{names_lun, page_address, cycle_effect, address_effect, program_row_effect, opening_address_effect, id_effect, ends_features, of_target, acts_for_target}
use Rattle.onfi_cycle.specs.Lun.{queue_after, view_after}
use Rattle.onfi_cycle.specs.Rules.{some_queued_clashes, some_read_clashes, is_some_and, named_lun_is, refused_by, is_refused_by, breaks_not_there, breaks_queue_clash}
use Rattle.onfi_cycle.specs.Permitted.{judge, judge_cycle}
use Rattle.onfi_cycle.specs.State.{tail_after, effect_alone, has_driver}
use Rattle.onfi_cycle.specs.Bounds.{TailFits, RowFits, is_read, is_block_erase, names_read, names_erase, names_program}
use Rattle.onfi_cycle.proofs.Others.{first_passed}
use Rattle.onfi_cycle.proofs.Passed.{KeepsRules, keeps_rules}
use Rattle.onfi_cycle.proofs.Steps.{anew_opens}

-- a tail that names no row
unnamed : (g : Parts) (t : TailFacts) (n : ℕ) (v : LunView) → names_read t ≡ false → names_erase t ≡ false → names_program t ≡ false → RowFits g t n v
unnamed g t n v read erase program = record { read = λ named h. cc; erase = λ named h. cc; program = λ named h. cc }

-- a queue that stays
same_queue : (g : Parts) (t : TailFacts) (n : ℕ) (v w : LunView) → w.queue ≡ v.queue → RowFits g t n v → RowFits g t n w
same_queue g t n v w e f =
    record {
      read = λ named h. ap (some_read_clashes g (page_address g (row t))) e ∙ f.read named h;
      erase = λ named h. ap (some_queued_clashes g true (page_address g (row t))) e ∙ f.erase named h;
      program = λ named h. ap (some_queued_clashes g false (page_address g (row t))) e ∙ f.program named h;
    }

-- effects that leave the queue
either_keeps : (b : Bool) (x y : Effect) (q : List Queued) → queue_after x q ≡ q → queue_after y q ≡ q → queue_after (cond b x y) q ≡ q
either_keeps true x y q hx hy = hx
either_keeps false x y q hx hy = hy

abbrev pub is_reset_lun : Command → Bool
is_reset_lun ResetLun = true
is_reset_lun _ = false

-- what is done for a whole target
served_keeps : (g : Parts) (n : ℕ) (w : Bool) (x : Effect) (q : List Queued) → queue_after x q ≡ q → queue_after (cond w (of_target g n x) Unaffected) q ≡ q
served_keeps g n w x q h = either_keeps w (of_target g n x) Unaffected q (either_keeps (acts_for_target g n) x Deselected q h refl) refl

address_keeps : (g : Parts) (t : TailFacts) (byte : ℕ) (c : Command) (m n : ℕ) (q : List Queued) → is_reset_lun c ≡ false → queue_after (address_effect g t byte c m n) q ≡ q
address_keeps g t byte ReadStatusEnhanced m n q h =
    either_keeps (m == 2) (cond (names_lun g (row_with t byte) n) SelectedForStatus Deselected) Unaffected q (either_keeps (names_lun g (row_with t byte) n) SelectedForStatus Deselected q refl refl) refl
address_keeps g t byte ReadId m n q h = served_keeps g n (wants_address t byte) (id_effect byte) q (either_keeps (byte == 0x20) IdRead (IdentityRead (byte == 0x40)) q refl refl)
address_keeps g t byte ReadParameterPage m n q h = served_keeps g n (wants_address t byte) ParameterPageReadStarted q refl
address_keeps g t byte ReadUniqueId m n q h = served_keeps g n (wants_address t byte) UniqueIdReadStarted q refl
address_keeps g t byte GetFeatures m n q h = served_keeps g n (wants_address t byte) (FeaturesReadStarted byte) q refl
address_keeps g t byte PageProgram m n q h =
    either_keeps (m == 4) (program_row_effect (names_lun g (row_with t byte) n)) Unaffected q (either_keeps (names_lun g (row_with t byte) n) ProgramAddressed Unaffected q refl refl) refl
address_keeps g t byte ResetLun m n q h = cc
address_keeps g t byte c m n q h = refl

-- a command: an opener names no row yet; of the others a Change Write Column alone goes on with a program
pub begun_outside : (c : Command) → phase_after_command c Outside ≡ Outside
begun_outside ChangeWriteColumn = refl
begun_outside c = refl

pub record ChangesColumn (c : Command) (p : DataPhase) : Type 0 where
  pub command : c ≡ ChangeWriteColumn
  pub phase : p ≡ Inputs

pub goes_on_inside : (c : Command) (p : DataPhase) → (takes_data (phase_after_command c p) || wants_column (phase_after_command c p)) ≡ true → ChangesColumn c p
goes_on_inside ChangeWriteColumn Inputs h = record { command = refl; phase = refl }
goes_on_inside ChangeWriteColumn Outside h = cc
goes_on_inside ChangeWriteColumn FirstColumn h = cc
goes_on_inside ChangeWriteColumn SecondColumn h = cc
goes_on_inside ChangeWriteColumn FeatureInputs h = cc
goes_on_inside c p h = cc

begun_row : (g : Parts) (n : ℕ) (v : LunView) (cycle : TargetCycle) → begins_sequence cycle ≡ true → RowFits g (extended_facts cycle (facts_of [])) n v
begun_row g n v (CommandCycle c) h =
    unnamed g (extended_facts (CommandCycle c) (facts_of [])) n v (and-false (is_read c)) (and-false (is_block_erase c)) (rw (begun_outside c) refl)
begun_row g n v (AddressCycle byte) h = cc
begun_row g n v (InputCycle byte) h = cc
begun_row g n v OutputCycle h = cc

command_row : (g : Parts) (t : TailFacts) (la : Latch) (n : ℕ) (v : LunView) (c : Command) → t.is_empty ≡ false → RowFits g t n v → RowFits g (extended_facts (CommandCycle c) t) n (view_after (cycle_effect g t la (CommandCycle c) n) v)
command_row g t la n v c some f =
    record {
      read = λ named h. no_read (t.is_empty) some h;
      erase = λ named h. none (t.is_empty) some h;
      program = λ named h. let is = goes_on_inside c t.phase h in kept c is.command named is.phase;
    }
  where
    no_read : {A : Type 0} → (e : Bool) → e ≡ false → opened (λ c n. is_read c && n == 5) (cond e (Some (record { opener = c; addresses = 0 })) None) ≡ true → A
    no_read true e h = cc
    no_read false e h = cc

    none : {A : Type 0} → (e : Bool) → e ≡ false → opened (λ c n. is_block_erase c && n == 3) (cond e (Some (record { opener = c; addresses = 0 })) None) ≡ true → A
    none true e h = cc
    none false e h = cc

    kept : (d : Command) → d ≡ ChangeWriteColumn → names_lun g (row t) n ≡ true → t.phase ≡ Inputs → some_queued_clashes g false (page_address g (row t)) (queue_after (cycle_effect g t la (CommandCycle d) n) v.queue) ≡ false
    kept ChangeWriteColumn is named e =
        let same = either_keeps (wants_command t ChangeWriteColumn && names_lun g (row t) n) Unaffected Unaffected v.queue refl refl in
        ap (some_queued_clashes g false (page_address g (row t))) same ∙ f.program named (rw e refl)
    kept d is named e = cc

-- an address: the last one of a row was judged by the queue of its LUN
pub judged_row : (g : Parts) (row : ℕ) (test : LunView → Bool) (luns : List LunView) (n : ℕ) (v : LunView) → named_lun_is g row test luns ≡ false → names_lun g row n ≡ true → slice_get luns n ≡ Some v → test v ≡ false
judged_row g row test luns n v passed named found = at (slice_get luns (parts_of g row).lun) refl passed
  where
    same : (parts_of g row).lun ≡ n
    same = eqb-true (parts_of g row).lun n named

    at : (o : Option LunView) → slice_get luns (parts_of g row).lun ≡ o → is_some_and test o ≡ false → test v ≡ false
    at None e h = let two : slice_get luns (parts_of g row).lun ≡ Some v = ap (slice_get luns) same ∙ found in cc
    at (Some w) e h = let two : slice_get luns (parts_of g row).lun ≡ Some v = ap (slice_get luns) same ∙ found in let is : w ≡ v = cc in sym (ap test is) ∙ h

pub next_is : (m k : ℕ) → (m + 1 == suc k) ≡ true → m ≡ k
next_is m k h = grind (arith, nat_tests)

-- the fifth address of a read
read_judged : (g : Parts) (p : PageAddress) (q : List Queued) (c : Command) (m : ℕ) → (at_last_row c m && refused_by g c p q) ≡ false → (is_read c && m + 1 == 5) ≡ true → some_read_clashes g p q ≡ false
read_judged g p q Read m h e = let four = next_is m 4 e in passes (m == 4) (rw four refl) h
  where
    passes : (b : Bool) → b ≡ true → (b && some_read_clashes g p q) ≡ false → some_read_clashes g p q ≡ false
    passes true e h = h
    passes false e h = cc
read_judged g p q c m h e = cc

-- the third address of an erase
erase_judged : (g : Parts) (p : PageAddress) (q : List Queued) (c : Command) (m : ℕ) → (at_last_row c m && refused_by g c p q) ≡ false → (is_block_erase c && m + 1 == 3) ≡ true → some_queued_clashes g true p q ≡ false
erase_judged g p q BlockErase m h e = let two = next_is m 2 e in passes (m == 2) (rw two refl) h
  where
    passes : (b : Bool) → b ≡ true → (b && some_queued_clashes g true p q) ≡ false → some_queued_clashes g true p q ≡ false
    passes true e h = h
    passes false e h = cc
erase_judged g p q c m h e = cc

judged_passes : (g : Parts) (p : PageAddress) (q : List Queued) (b : Bool) → b ≡ true → (b && some_queued_clashes g false p q) ≡ false → some_queued_clashes g false p q ≡ false
judged_passes g p q true e h = h
judged_passes g p q false e h = cc

-- the fifth address of a program
program_judged : (g : Parts) (p : PageAddress) (q : List Queued) (c : Command) (m : ℕ) → (at_last_row c m && refused_by g c p q) ≡ false → (begins_data c && m == 4) ≡ true → some_queued_clashes g false p q ≡ false
program_judged g p q PageProgram m h e = judged_passes g p q (m == 4) e h
program_judged g p q ChangeWriteColumn m h e = judged_passes g p q (m == 4) e h
program_judged g p q c m h e = cc

in_data : (b c : Bool) → (takes_data (cond b Inputs (cond c FeatureInputs Outside)) || wants_column (cond b Inputs (cond c FeatureInputs Outside))) ≡ true → b ≡ true
in_data true c h = refl
in_data false true h = cc
in_data false false h = cc

-- where no opener stands alone, an address goes on in the data of a program
pub later_address : (p : DataPhase) → (takes_data (phase_after_address None p) || wants_column (phase_after_address None p)) ≡ true → (takes_data p || wants_column p) ≡ true
later_address Outside h = cc
later_address FirstColumn h = refl
later_address SecondColumn h = refl
later_address Inputs h = cc
later_address FeatureInputs h = cc

-- behind an opener, its last address
pub last_address : (o : Opening) (p : DataPhase) → (wants_column p ≡ true → Some o ≡ None) → (takes_data (phase_after_address (Some o) p) || wants_column (phase_after_address (Some o) p)) ≡ true → (begins_data o.opener && o.addresses == 4) ≡ true
last_address o Outside alone h = in_data (begins_data o.opener && o.addresses == 4) (is_set_features o.opener && o.addresses == 0) h
last_address o FirstColumn alone h = let never = alone refl in cc
last_address o SecondColumn alone h = let never = alone refl in cc
last_address o Inputs alone h = cc
last_address o FeatureInputs alone h = cc

-- a Reset LUN names no row of the array
no_program : (c : Command) (b : Bool) → is_reset_lun c ≡ true → (begins_data c && b) ≡ true → false ≡ true
no_program ResetLun b r h = h
no_program _ b r h = r

no_read : (c : Command) (b : Bool) → is_reset_lun c ≡ true → (is_read c && b) ≡ true → false ≡ true
no_read ResetLun b r h = h
no_read _ b r h = r

no_erase : (c : Command) (b : Bool) → is_reset_lun c ≡ true → (is_block_erase c && b) ≡ true → false ≡ true
no_erase ResetLun b r h = h
no_erase _ b r h = r

abbrev opened_by_read : Option Opening → Bool
opened_by_read o = opened (λ c n. is_read c && n == 5) o

abbrev opened_by_erase : Option Opening → Bool
opened_by_erase o = opened (λ c n. is_block_erase c && n == 3) o

address_row : (g : Parts) (t : TailFacts) (la : Latch) (luns : List LunView) (n : ℕ) (v : LunView) (byte : ℕ) → breaks_queue_clash g t luns (AddressCycle byte) ≡ false → slice_get luns n ≡ Some v → TailFits g t → RowFits g t n v → RowFits g (extended_facts (AddressCycle byte) t) n (view_after (cycle_effect g t la (AddressCycle byte) n) v)
unfolding breaks_queue_clash
address_row g t la luns n v byte f10 found tf f = at t.opening refl f10
  where
    next : TailFacts
    next = extended_facts (AddressCycle byte) t

    first : (o : Opening) → t.opening ≡ Some o → next.opening ≡ one_address_more (Some o) → next.phase ≡ phase_after_address (Some o) t.phase → row next ≡ row_with t byte → named_lun_is g (row_with t byte) (λ v. is_refused_by g (Some o) (page_address g (row_with t byte)) v.queue) luns ≡ false → RowFits g next n v
    first o is opened phase same passed =
        record {
          read = λ named h.
              ap (λ r. some_read_clashes g (page_address g r) v.queue) same ∙
              read_judged g (page_address g (row_with t byte)) v.queue o.opener o.addresses (free named) (ap (opened_by_read) (sym opened) ∙ h);
          erase = λ named h.
              ap (λ r. some_queued_clashes g true (page_address g r) v.queue) same ∙
              erase_judged g (page_address g (row_with t byte)) v.queue o.opener o.addresses (free named) (ap (opened_by_erase) (sym opened) ∙ h);
          program = λ named h.
              ap (λ r. some_queued_clashes g false (page_address g r) v.queue) same ∙
              program_judged g (page_address g (row_with t byte)) v.queue o.opener o.addresses (free named) (last_address o t.phase (λ e. sym is ∙ tf.in_column e) (ap (λ p. takes_data p || wants_column p) (sym phase) ∙ h));
        }
      where
        free : names_lun g (row next) n ≡ true → is_refused_by g (Some o) (page_address g (row_with t byte)) v.queue ≡ false
        free named = judged_row g (row_with t byte) (λ v. is_refused_by g (Some o) (page_address g (row_with t byte)) v.queue) luns n v passed (ap (λ r. names_lun g r n) (sym same) ∙ named) found

    later : next.opening ≡ None → next.phase ≡ phase_after_address None t.phase → row next ≡ row t → RowFits g next n v
    later opened phase same =
        record {
          read = λ named h. none_read next.opening opened h;
          erase = λ named h. none next.opening opened h;
          program = λ named h.
              ap (λ r. some_queued_clashes g false (page_address g r) v.queue) same ∙
              f.program (ap (λ r. names_lun g r n) (sym same) ∙ named) (later_address t.phase (ap (λ p. takes_data p || wants_column p) (sym phase) ∙ h));
        }
      where
        none_read : {A : Type 0} → (o : Option Opening) → o ≡ None → opened_by_read o ≡ true → A
        none_read None e h = cc
        none_read (Some o) e h = cc

        none : {A : Type 0} → (o : Option Opening) → o ≡ None → opened_by_erase o ≡ true → A
        none None e h = cc
        none (Some o) e h = cc

    resets : (o : Opening) → t.opening ≡ Some o → is_reset_lun o.opener ≡ true → (w : LunView) → next.opening ≡ one_address_more (Some o) → next.phase ≡ phase_after_address (Some o) t.phase → RowFits g next n w
    resets o is r w opened phase =
        record {
          read = λ named h. let no = no_read o.opener (o.addresses + 1 == 5) r (ap (opened_by_read) (sym opened) ∙ h) in cc;
          erase = λ named h. let no = no_erase o.opener (o.addresses + 1 == 3) r (ap (opened_by_erase) (sym opened) ∙ h) in cc;
          program = λ named h. let no = no_program o.opener (o.addresses == 4) r (last_address o t.phase (λ e. sym is ∙ tf.in_column e) (ap (λ p. takes_data p || wants_column p) (sym phase) ∙ h)) in cc;
        }

    at : (o : Option Opening) → t.opening ≡ o → named_lun_is g (row_with t byte) (λ v. is_refused_by g o (page_address g (row_with t byte)) v.queue) luns ≡ false → RowFits g next n (view_after (cycle_effect g t la (AddressCycle byte) n) v)
    at None e passed =
        same_queue g next n v (view_after (cycle_effect g t la (AddressCycle byte) n) v) (ap (λ o. queue_after (opening_address_effect g t byte o n) v.queue) e)
        (later (ap one_address_more e) (ap (λ o. phase_after_address o t.phase) e) (ap (λ o. row_of (row_after_address o byte t.row).r1 (row_after_address o byte t.row).r2 (row_after_address o byte t.row).r3) e))
    at (Some o) e passed = by (is_reset_lun o.opener) refl
      where
        by : (b : Bool) → is_reset_lun o.opener ≡ b → RowFits g next n (view_after (cycle_effect g t la (AddressCycle byte) n) v)
        by true r = resets o e r (view_after (cycle_effect g t la (AddressCycle byte) n) v) (ap one_address_more e) (ap (λ o. phase_after_address o t.phase) e)
        by false r =
            same_queue g next n v (view_after (cycle_effect g t la (AddressCycle byte) n) v)
            (ap (λ o. queue_after (opening_address_effect g t byte o n) v.queue) e ∙ address_keeps g t byte o.opener o.addresses n v.queue r)
            (first o e (ap one_address_more e) (ap (λ o. phase_after_address o t.phase) e) (ap (λ o. row_of (row_after_address o byte t.row).r1 (row_after_address o byte t.row).r2 (row_after_address o byte t.row).r3) e) passed)

pub input_inside : (n : ℕ) (p : DataPhase) → (takes_data (phase_after_input n p) || wants_column (phase_after_input n p)) ≡ true → (takes_data p || wants_column p) ≡ true
input_inside n Outside h = cc
input_inside n FirstColumn h = cc
input_inside n SecondColumn h = cc
input_inside n Inputs h = refl
input_inside n FeatureInputs h = at (ltb n 3) h
  where
    at : (b : Bool) → (takes_data (cond b FeatureInputs Outside) || wants_column (cond b FeatureInputs Outside)) ≡ true → false ≡ true
    at true h = h
    at false h = h

-- in the data of a program there are no bytes of a Set Features
pub no_features_inside : (p : DataPhase) → (takes_data p || wants_column p) ≡ true → takes_features p ≡ false
no_features_inside Outside h = refl
no_features_inside FirstColumn h = refl
no_features_inside SecondColumn h = refl
no_features_inside Inputs h = refl
no_features_inside FeatureInputs h = cc

extended_row : (g : Parts) (t : TailFacts) (la : Latch) (luns : List LunView) (n : ℕ) (v : LunView) (cycle : TargetCycle) → t.is_empty ≡ false → KeepsRules g t luns cycle → slice_get luns n ≡ Some v → TailFits g t → RowFits g t n v → RowFits g (extended_facts cycle t) n (view_after (cycle_effect g t la cycle n) v)
extended_row g t la luns n v (CommandCycle c) some keeps found tf f = command_row g t la n v c some f
extended_row g t la luns n v (AddressCycle byte) some keeps found tf f = address_row g t la luns n v byte keeps.f10 found tf f
extended_row g t la luns n v (InputCycle byte) some keeps found tf f =
    record {
      read = λ named h. cc;
      erase = λ named h. cc;
      program = λ named h.
          ap (some_queued_clashes g false (page_address g (row t))) (served_keeps g n (ends_features t) (FeaturesSet (t.column % 256)) v.queue refl)
          ∙ f.program named (input_inside t.inputs t.phase h);
    }
extended_row g t la luns n v OutputCycle some keeps found tf f = record { read = λ named h. cc; erase = λ named h. cc; program = λ named h. cc }

cycle_row : (g : Parts) (t : TailFacts) (la : Latch) (luns : List LunView) (n : ℕ) (v : LunView) (cycle : TargetCycle) → KeepsRules g t luns cycle → slice_get luns n ≡ Some v → TailFits g t → RowFits g t n v → RowFits g (facts_after cycle t) n (view_after (cycle_effect g t la cycle n) v)
cycle_row g t la luns n v cycle keeps found tf f = at (begins_anew t cycle) refl
  where
    w : LunView
    w = view_after (cycle_effect g t la cycle n) v

    empty : t.is_empty ≡ true → RowFits g t n w
    empty e = unnamed g t n w (rw (tf.nothing e) refl) (rw (tf.nothing e) refl) (rw (tf.outside e) refl)

    on : (e : Bool) → t.is_empty ≡ e → RowFits g (cond e t (extended_facts cycle t)) n w
    on true e = empty e
    on false e = extended_row g t la luns n v cycle e keeps found tf f

    at : (b : Bool) → begins_anew t cycle ≡ b → RowFits g (cond b (extended_facts cycle (facts_of [])) (cond t.is_empty t (extended_facts cycle t))) n w
    at true e = begun_row g n w cycle (anew_opens t cycle e)
    at false e = on t.is_empty refl

-- a permitted item on its target
pub row_fits : (g : Parts) (targets : ℕ) (t : TailFacts) (luns : List LunView) (i : Item) (n : ℕ) (v : LunView) → judge g targets t luns i ≡ None → slice_get luns n ≡ Some v → TailFits g t → RowFits g t n v → RowFits g (tail_after i t) n (view_after (effect_alone g t (has_driver luns) i n v) v)
row_fits g targets t luns (Cyc c) n v h found tf f =
    let cycle = target_cycle c.kind c.byte in
    let keeps = keeps_rules g t luns cycle (first_passed (breaks_not_there targets luns (Cyc c)) NotThere (judge_cycle g t luns cycle) h).1 in
    at (c.ce == c.ce) refl (cycle_row g t (cond (has_driver luns) v.latch Off) luns n v cycle keeps found tf f)
  where
    at : (b : Bool) → (c.ce == c.ce) ≡ b → RowFits g (facts_after (target_cycle c.kind c.byte) t) n (view_after (cycle_effect g t (cond (has_driver luns) v.latch Off) (target_cycle c.kind c.byte) n) v) → RowFits g (facts_after (target_cycle c.kind c.byte) t) n (view_after (cond b (cycle_effect g t (cond (has_driver luns) v.latch Off) (target_cycle c.kind c.byte) n) Unaffected) v)
    at true e h = h
    at false e h = let same : (c.ce == c.ce) ≡ true = grind (arith, nat_tests) in cc
row_fits g targets t luns (Rdy ce lun fail) n v h found tf f = same_queue g t n v _ (either_keeps (ce == ce && lun == n) (BecameReady fail) Unaffected v.queue refl refl) f
row_fits g targets t luns (Ard ce lun fail) n v h found tf f = same_queue g t n v _ (either_keeps (ce == ce && lun == n) (ArrayBecameReady fail) Unaffected v.queue refl refl) f
