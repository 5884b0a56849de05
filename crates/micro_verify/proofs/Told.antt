-- Commands on a lone LUN: what the claim says against one is what the rules say, exactly.
use Rattle.std.proofs.lemmas.Bool.Decides.{nat_tests}
use Rattle.std.proofs.Common.{◌≡◌, ℕ, ◌+◌, ◌≤◌, ◌==◌, Bool, true, false, ◌&&◌, ◌||◌, cond, not, ltb, nat_le, List, Option, Some, None, refl, sym, ap, ◌∙◌, subst, arith, length}
use Rattle.std.proofs.Math.Bool.{or-false}
use Rattle.std.proofs.lemmas.Bool.{not-false}
use Rattle.nand_geometry.specs.declared.parts.Parts.{Parts}
use Rattle.nand_geometry.specs.Optional.{is_wide, has_features, has_unique_id, has_enhanced_column, has_lun_reset, has_plane_reads, has_copyback, has_synchronous_reset, has_all, has_program_cache}
use Rattle.onfi_cycle.specs.declared.command.Command.{Command}
use Rattle.onfi_cycle.specs.declared.command.Command.TheVariants.{Read, ReadConfirm, ReadPlane, ChangeReadColumn, ChangeReadColumnEnhanced, ChangeReadColumnConfirm, BlockErase, BlockEraseConfirm, BlockErasePlane, ReadStatus, ReadStatusEnhanced, PageProgram, ChangeWriteColumn, ProgramConfirm, ProgramPlane, ReadId, ReadParameterPage, Reset, ReadCacheSequential, ReadCacheEnd, ReadUniqueId, GetFeatures, SetFeatures, ResetLun, SynchronousReset, Unknown, CopybackRead, ProgramCache}
use Rattle.onfi_cycle.specs.declared.data_phase.DataPhase.TheVariants.{FirstColumn, SecondColumn}
use Rattle.onfi_cycle.specs.declared.forbidden.Forbidden.{Forbidden}
use Rattle.onfi_cycle.specs.declared.latch.Latch.{Latch}
use Rattle.onfi_cycle.specs.declared.latch.Latch.TheVariants.{Off, Status, Data}
use Rattle.onfi_cycle.specs.declared.register.Register.{Register}
use Rattle.onfi_cycle.specs.declared.register.Register.TheVariants.{Empty, Page, ParameterPage, Identifier}
use Rattle.onfi_cycle.specs.declared.tail_facts.TailFacts.{TailFacts}
use Rattle.onfi_cycle.specs.declared.target_cycle.TargetCycle.TheVariants.{CommandCycle}
use Rattle.onfi_cycle.specs.Command.{closes, address_cycles, is_opener}
use Rattle.onfi_cycle.specs.Sequence.{is_open, wants_command, takes_data, opened}
use Rattle.onfi_cycle.specs.Lun.{is_cache_read, is_page_read, programs}
use Rattle.onfi_cycle.specs.LunView.{LunView}
use Rattle.onfi_cycle.specs.Effect.{is_data}
use Rattle.micro_claims.specs.State.{may_be_31, may_be_other}
use Rattle.micro_claims.specs.Spans.{greatest_bound, bound_plus, is_at_most}
use Rattle.onfi_cycle.specs.Rules.{has_some, may_change_column, is_page_or_parameters, breaks_command_unknown, breaks_sequence_open, breaks_several_luns, breaks_no_column_to_change, breaks_command_misplaced, breaks_address_misplaced, breaks_row_outside, breaks_lun_busy, breaks_queue_clash, breaks_input_misplaced, breaks_no_sole_driver, breaks_data_not_ready, breaks_column_outside, breaks_cache_read_misplaced, breaks_cache_program_misplaced, breaks_copyback_misplaced, breaks_plane_not_held}
use Rattle.micro_program.specs.Program.{Job, Done}
use Rattle.micro_program.proofs.Scenes.{closed_unwanted}
use Rattle.micro_claims.specs.declared.state.State.{State}
use Rattle.micro_claims.specs.declared.place.Place.{Place}
use Rattle.micro_claims.specs.declared.place.Place.TheVariants.{Closed, After, InData, InColumn, InFeatures, Unknown as UnknownPlace}
use Rattle.micro_claims.specs.Against.{place_wants, is_data_command, may_be_open, shows_only_data, has_page_or_parameters, drives, is_unfit, may_end_sequence, opener_refused, closer_refused, goes_on_at, selects_plane_at, command_out_of_place}
use Rattle.micro_verify.specs.Cause.{is_of_cycle_forbidden}
use Rattle.micro_claims.proofs.Fits.{Address}
use Rattle.micro_verify.proofs.Lone.{Lone, judged}
use Rattle.micro_verify.proofs.Mirrors.{Mirrors, PlaceMirror, begun, open_same, queue_same, shows_of, held_of, is_modelled, is_base_place, is_read_column, exact_test}

-- a test tells whether a rule of V7 is broken
abbrev pub Told : Bool → Option Forbidden → Type 0
Told true None = ⊥
Told true (Some rule) = is_of_cycle_forbidden rule ≡ true
Told false None = Unit {0}
Told false (Some rule) = ⊥

told_by : (x y : Bool) (o : Option Forbidden) → x ≡ y → Told y o → Told x o
told_by x y o e h = subst (λ (b : Bool). Told b o) (sym e) h

-- 1. openers

told_read : (g : Parts) (c : Lone) → Told (is_open c.facts || c.view.busy) (judged g c (CommandCycle Read))
unfolding breaks_command_unknown breaks_sequence_open breaks_several_luns breaks_no_column_to_change breaks_command_misplaced breaks_address_misplaced breaks_row_outside breaks_lun_busy breaks_queue_clash breaks_input_misplaced breaks_no_sole_driver breaks_data_not_ready breaks_column_outside breaks_cache_read_misplaced breaks_cache_program_misplaced breaks_copyback_misplaced breaks_plane_not_held
told_read g c = at (is_open c.facts) refl c.view.busy refl
  where
    at : (o : Bool) → is_open c.facts ≡ o → (b : Bool) → c.view.busy ≡ b → Told (is_open c.facts || c.view.busy) (judged g c (CommandCycle Read))
    at true e b f = rw e refl
    at false e true f = rw (e, f) refl
    at false e false f = rw (e, f) tt

told_erase : (g : Parts) (c : Lone) → Told (is_open c.facts || c.view.busy) (judged g c (CommandCycle BlockErase))
unfolding breaks_command_unknown breaks_sequence_open breaks_several_luns breaks_no_column_to_change breaks_command_misplaced breaks_address_misplaced breaks_row_outside breaks_lun_busy breaks_queue_clash breaks_input_misplaced breaks_no_sole_driver breaks_data_not_ready breaks_column_outside breaks_cache_read_misplaced breaks_cache_program_misplaced breaks_copyback_misplaced breaks_plane_not_held
told_erase g c = at (is_open c.facts) refl c.view.busy refl
  where
    at : (o : Bool) → is_open c.facts ≡ o → (b : Bool) → c.view.busy ≡ b → Told (is_open c.facts || c.view.busy) (judged g c (CommandCycle BlockErase))
    at true e b f = rw e refl
    at false e true f = rw (e, f) refl
    at false e false f = rw (e, f) tt

told_program : (g : Parts) (c : Lone) → Told (is_open c.facts || c.view.busy) (judged g c (CommandCycle PageProgram))
unfolding breaks_command_unknown breaks_sequence_open breaks_several_luns breaks_no_column_to_change breaks_command_misplaced breaks_address_misplaced breaks_row_outside breaks_lun_busy breaks_queue_clash breaks_input_misplaced breaks_no_sole_driver breaks_data_not_ready breaks_column_outside breaks_cache_read_misplaced breaks_cache_program_misplaced breaks_copyback_misplaced breaks_plane_not_held
told_program g c = at (is_open c.facts) refl c.view.busy refl
  where
    at : (o : Bool) → is_open c.facts ≡ o → (b : Bool) → c.view.busy ≡ b → Told (is_open c.facts || c.view.busy) (judged g c (CommandCycle PageProgram))
    at true e b f = rw e refl
    at false e true f = rw (e, f) refl
    at false e false f = rw (e, f) tt

pub told_status : (g : Parts) (c : Lone) → ltb 1 g.luns ≡ false → Told (is_open c.facts || false) (judged g c (CommandCycle ReadStatus))
unfolding breaks_command_unknown breaks_sequence_open breaks_several_luns breaks_no_column_to_change breaks_command_misplaced breaks_address_misplaced breaks_row_outside breaks_lun_busy breaks_queue_clash breaks_input_misplaced breaks_no_sole_driver breaks_data_not_ready breaks_column_outside breaks_cache_read_misplaced breaks_cache_program_misplaced breaks_copyback_misplaced breaks_plane_not_held
told_status g c one = at (is_open c.facts) refl
  where
    at : (o : Bool) → is_open c.facts ≡ o → Told (is_open c.facts || false) (judged g c (CommandCycle ReadStatus))
    at true e = rw e refl
    at false e = rw (e, one) tt

told_reset : (g : Parts) (c : Lone) → ltb 1 g.luns ≡ false → is_wide g.optional ≡ false → Told (is_open c.facts || false) (judged g c (CommandCycle Reset))
unfolding breaks_command_unknown breaks_sequence_open breaks_several_luns breaks_no_column_to_change breaks_command_misplaced breaks_address_misplaced breaks_row_outside breaks_lun_busy breaks_queue_clash breaks_input_misplaced breaks_no_sole_driver breaks_data_not_ready breaks_column_outside breaks_cache_read_misplaced breaks_cache_program_misplaced breaks_copyback_misplaced breaks_plane_not_held
told_reset g c one base = at (is_open c.facts) refl
  where
    at : (o : Bool) → is_open c.facts ≡ o → Told (is_open c.facts || false) (judged g c (CommandCycle Reset))
    at true e = rw e refl
    at false e = rw (e, one) tt

told_enhanced : (g : Parts) (c : Lone) → g.enhanced ≡ true → Told (is_open c.facts || false) (judged g c (CommandCycle ReadStatusEnhanced))
unfolding breaks_command_unknown breaks_sequence_open breaks_several_luns breaks_no_column_to_change breaks_command_misplaced breaks_address_misplaced breaks_row_outside breaks_lun_busy breaks_queue_clash breaks_input_misplaced breaks_no_sole_driver breaks_data_not_ready breaks_column_outside breaks_cache_read_misplaced breaks_cache_program_misplaced breaks_copyback_misplaced breaks_plane_not_held
told_enhanced g c enhanced = at (is_open c.facts) refl
  where
    at : (o : Bool) → is_open c.facts ≡ o → Told (is_open c.facts || false) (judged g c (CommandCycle ReadStatusEnhanced))
    at true e = rw (e, enhanced) refl
    at false e = rw (e, enhanced) tt

-- 05h
told_change : (g : Parts) (c : Lone) → is_modelled c.view.register ≡ true → Told (is_open c.facts || (not (shows_only_data (shows_of c.view.latch)) || c.view.busy || not (has_page_or_parameters (held_of c.view.register)))) (judged g c (CommandCycle ChangeReadColumn))
unfolding breaks_command_unknown breaks_sequence_open breaks_several_luns breaks_no_column_to_change breaks_command_misplaced breaks_address_misplaced breaks_row_outside breaks_lun_busy breaks_queue_clash breaks_input_misplaced breaks_no_sole_driver breaks_data_not_ready breaks_column_outside breaks_cache_read_misplaced breaks_cache_program_misplaced breaks_copyback_misplaced breaks_plane_not_held
told_change g c known = at (is_open c.facts) refl c.view.latch refl c.view.busy refl c.view.register refl known
  where
    at : (o : Bool) → is_open c.facts ≡ o → (x : Latch) → c.view.latch ≡ x → (b : Bool) → c.view.busy ≡ b → (r : Register) → c.view.register ≡ r → is_modelled c.view.register ≡ true → Told (is_open c.facts || (not (shows_only_data (shows_of c.view.latch)) || c.view.busy || not (has_page_or_parameters (held_of c.view.register)))) (judged g c (CommandCycle ChangeReadColumn))
    at true e x k b f r h m = rw e refl
    at false e Off k b f r h m = rw (e, k) refl
    at false e Status k b f r h m = rw (e, k) refl
    at false e Data k true f r h m = rw (e, k, f) refl
    at false e Data k false f Empty h m = rw (e, k, f, h) refl
    at false e Data k false f (Page p) h m = rw (e, k, f, h) tt
    at false e Data k false f ParameterPage h m = rw (e, k, f, h) tt
    at false e Data k false f Identifier h m = rw (e, k, f, h) refl
    at false e Data k false f _ h m = let known = ap is_modelled (sym h) ∙ m in cc

-- 90h and ECh
told_identity : (g : Parts) (c : Lone) → ltb 1 g.luns ≡ false → programs c.view ≡ false → Told (is_open c.facts || (c.view.busy || has_some c.view.queue || is_cache_read c.view.closer || false)) (judged g c (CommandCycle ReadId))
unfolding breaks_command_unknown breaks_sequence_open breaks_several_luns breaks_no_column_to_change breaks_command_misplaced breaks_address_misplaced breaks_row_outside breaks_lun_busy breaks_queue_clash breaks_input_misplaced breaks_no_sole_driver breaks_data_not_ready breaks_column_outside breaks_cache_read_misplaced breaks_cache_program_misplaced breaks_copyback_misplaced breaks_plane_not_held
told_identity g c one program = at (is_open c.facts) refl c.view.busy refl (has_some c.view.queue) refl (is_cache_read c.view.closer) refl
  where
    at : (o : Bool) → is_open c.facts ≡ o → (b : Bool) → c.view.busy ≡ b → (q : Bool) → has_some c.view.queue ≡ q → (k : Bool) → is_cache_read c.view.closer ≡ k → Told (is_open c.facts || (c.view.busy || has_some c.view.queue || is_cache_read c.view.closer || false)) (judged g c (CommandCycle ReadId))
    at true e b f q h k i = rw e refl
    at false e true f q h k i = rw (e, one, f) refl
    at false e false f true h k i = rw (e, one, f, h) refl
    at false e false f false h true i = rw (e, one, f, h, i) refl
    at false e false f false h false i = rw (program, e, one, f, h, i) tt

told_parameters : (g : Parts) (c : Lone) → ltb 1 g.luns ≡ false → programs c.view ≡ false → Told (is_open c.facts || (c.view.busy || has_some c.view.queue || is_cache_read c.view.closer || false)) (judged g c (CommandCycle ReadParameterPage))
unfolding breaks_command_unknown breaks_sequence_open breaks_several_luns breaks_no_column_to_change breaks_command_misplaced breaks_address_misplaced breaks_row_outside breaks_lun_busy breaks_queue_clash breaks_input_misplaced breaks_no_sole_driver breaks_data_not_ready breaks_column_outside breaks_cache_read_misplaced breaks_cache_program_misplaced breaks_copyback_misplaced breaks_plane_not_held
told_parameters g c one program = at (is_open c.facts) refl c.view.busy refl (has_some c.view.queue) refl (is_cache_read c.view.closer) refl
  where
    at : (o : Bool) → is_open c.facts ≡ o → (b : Bool) → c.view.busy ≡ b → (q : Bool) → has_some c.view.queue ≡ q → (k : Bool) → is_cache_read c.view.closer ≡ k → Told (is_open c.facts || (c.view.busy || has_some c.view.queue || is_cache_read c.view.closer || false)) (judged g c (CommandCycle ReadParameterPage))
    at true e b f q h k i = rw e refl
    at false e true f q h k i = rw (e, one, f) refl
    at false e false f true h k i = rw (e, one, f, h) refl
    at false e false f false h true i = rw (e, one, f, h, i) refl
    at false e false f false h false i = rw (program, e, one, f, h, i) tt

-- 2. closers

pub closes_none : (o d : Command) → is_data_command d ≡ true → closes o d ≡ false
closes_none Read ChangeWriteColumn h = refl
closes_none Read ProgramConfirm h = refl
closes_none Read ProgramPlane h = refl
closes_none Read ProgramCache h = refl
closes_none ChangeReadColumn ChangeWriteColumn h = refl
closes_none ChangeReadColumn ProgramConfirm h = refl
closes_none ChangeReadColumn ProgramPlane h = refl
closes_none ChangeReadColumn ProgramCache h = refl
closes_none BlockErase ChangeWriteColumn h = refl
closes_none BlockErase ProgramConfirm h = refl
closes_none BlockErase ProgramPlane h = refl
closes_none BlockErase ProgramCache h = refl
closes_none ChangeReadColumnEnhanced ChangeWriteColumn h = refl
closes_none ChangeReadColumnEnhanced ProgramConfirm h = refl
closes_none ChangeReadColumnEnhanced ProgramPlane h = refl
closes_none ChangeReadColumnEnhanced ProgramCache h = refl
closes_none Read _ h = cc
closes_none ChangeReadColumn _ h = cc
closes_none BlockErase _ h = cc
closes_none ChangeReadColumnEnhanced _ h = cc
closes_none _ d h = refl

-- the closers, by what they go on with
abbrev pub WantsBy : TailFacts → Command → Type 0
WantsBy t d = (is_data_command d ≡ true → wants_command t d ≡ takes_data t.phase) × (is_data_command d ≡ false → wants_command t d ≡ opened (λ c n. closes c d && n == address_cycles c) t.opening)

pub wants_by : (t : TailFacts) (d : Command) → WantsBy t d
wants_by t ChangeWriteColumn = (λ e. refl, λ e. cc)
wants_by t ProgramConfirm = (λ e. refl, λ e. cc)
wants_by t ProgramPlane = (λ e. refl, λ e. cc)
wants_by t ProgramCache = (λ e. refl, λ e. cc)
wants_by t _ = (λ e. cc, λ e. refl)

pub wants_same : (p : Place) (a : Address) (t : TailFacts) (d : Command) → PlaceMirror p a t → place_wants d p ≡ wants_command t d
wants_same Closed a t d is = sym (is.command d)
wants_same (After o n) a t d is = at (is_data_command d) refl
  where
    at : (b : Bool) → is_data_command d ≡ b → (closes o d && n == address_cycles o) ≡ wants_command t d
    at true e = rw (closes_none o d e) (sym ((wants_by t d).0 e ∙ ap takes_data (begun o n a t is).phase))
    at false e = sym ((wants_by t d).1 e ∙ ap (opened (λ c n. closes c d && n == address_cycles c)) (begun o n a t is).opening)
wants_same InData a t d is = at (is_data_command d) refl
  where
    at : (b : Bool) → is_data_command d ≡ b → is_data_command d ≡ wants_command t d
    at true e = e ∙ sym ((wants_by t d).0 e ∙ ap takes_data is.program.phase)
    at false e = e ∙ sym (is.command d e)
wants_same (InColumn n) a t d is = at (is_data_command d) refl
  where
    no_inputs : (b : Bool) → takes_data (cond b FirstColumn SecondColumn) ≡ false
    no_inputs true = refl
    no_inputs false = refl

    at : (b : Bool) → is_data_command d ≡ b → false ≡ wants_command t d
    at true e = sym ((wants_by t d).0 e ∙ (ap takes_data is.program.phase ∙ no_inputs (n == 0)))
    at false e = sym ((wants_by t d).1 e ∙ ap (opened (λ c n. closes c d && n == address_cycles c)) is.alone)
wants_same (InFeatures n) a t d is = absurd is
wants_same UnknownPlace a t d is = absurd is

told_30 : (g : Parts) (c : Lone) → Told (not (wants_command c.facts ReadConfirm)) (judged g c (CommandCycle ReadConfirm))
unfolding breaks_command_unknown breaks_sequence_open breaks_several_luns breaks_no_column_to_change breaks_command_misplaced breaks_address_misplaced breaks_row_outside breaks_lun_busy breaks_queue_clash breaks_input_misplaced breaks_no_sole_driver breaks_data_not_ready breaks_column_outside breaks_cache_read_misplaced breaks_cache_program_misplaced breaks_copyback_misplaced breaks_plane_not_held
told_30 g c = at (wants_command c.facts ReadConfirm) refl
  where
    at : (b : Bool) → wants_command c.facts ReadConfirm ≡ b → Told (not (wants_command c.facts ReadConfirm)) (judged g c (CommandCycle ReadConfirm))
    at true e = rw e tt
    at false e = rw e refl

told_d0 : (g : Parts) (c : Lone) → Told (not (wants_command c.facts BlockEraseConfirm)) (judged g c (CommandCycle BlockEraseConfirm))
unfolding breaks_command_unknown breaks_sequence_open breaks_several_luns breaks_no_column_to_change breaks_command_misplaced breaks_address_misplaced breaks_row_outside breaks_lun_busy breaks_queue_clash breaks_input_misplaced breaks_no_sole_driver breaks_data_not_ready breaks_column_outside breaks_cache_read_misplaced breaks_cache_program_misplaced breaks_copyback_misplaced breaks_plane_not_held
told_d0 g c = at (wants_command c.facts BlockEraseConfirm) refl
  where
    at : (b : Bool) → wants_command c.facts BlockEraseConfirm ≡ b → Told (not (wants_command c.facts BlockEraseConfirm)) (judged g c (CommandCycle BlockEraseConfirm))
    at true e = rw e tt
    at false e = rw e refl

told_10 : (g : Parts) (c : Lone) → Told (not (wants_command c.facts ProgramConfirm)) (judged g c (CommandCycle ProgramConfirm))
unfolding breaks_command_unknown breaks_sequence_open breaks_several_luns breaks_no_column_to_change breaks_command_misplaced breaks_address_misplaced breaks_row_outside breaks_lun_busy breaks_queue_clash breaks_input_misplaced breaks_no_sole_driver breaks_data_not_ready breaks_column_outside breaks_cache_read_misplaced breaks_cache_program_misplaced breaks_copyback_misplaced breaks_plane_not_held
told_10 g c = at (wants_command c.facts ProgramConfirm) refl
  where
    at : (b : Bool) → wants_command c.facts ProgramConfirm ≡ b → Told (not (wants_command c.facts ProgramConfirm)) (judged g c (CommandCycle ProgramConfirm))
    at true e = rw e tt
    at false e = rw e refl

told_85 : (g : Parts) (c : Lone) → Told (not (wants_command c.facts ChangeWriteColumn)) (judged g c (CommandCycle ChangeWriteColumn))
unfolding breaks_command_unknown breaks_sequence_open breaks_several_luns breaks_no_column_to_change breaks_command_misplaced breaks_address_misplaced breaks_row_outside breaks_lun_busy breaks_queue_clash breaks_input_misplaced breaks_no_sole_driver breaks_data_not_ready breaks_column_outside breaks_cache_read_misplaced breaks_cache_program_misplaced breaks_copyback_misplaced breaks_plane_not_held
told_85 g c = at (wants_command c.facts ChangeWriteColumn) refl
  where
    at : (b : Bool) → wants_command c.facts ChangeWriteColumn ≡ b → Told (not (wants_command c.facts ChangeWriteColumn)) (judged g c (CommandCycle ChangeWriteColumn))
    at true e = rw e tt
    at false e = rw e refl

-- 3. by the claim
-- E0h
told_e0 : (g : Parts) (c : Lone) → Told (not (wants_command c.facts ChangeReadColumnConfirm)) (judged g c (CommandCycle ChangeReadColumnConfirm))
unfolding breaks_command_unknown breaks_sequence_open breaks_several_luns breaks_no_column_to_change breaks_command_misplaced breaks_address_misplaced breaks_row_outside breaks_lun_busy breaks_queue_clash breaks_input_misplaced breaks_no_sole_driver breaks_data_not_ready breaks_column_outside breaks_cache_read_misplaced breaks_cache_program_misplaced breaks_copyback_misplaced breaks_plane_not_held
told_e0 g c = at (wants_command c.facts ChangeReadColumnConfirm) refl
  where
    at : (b : Bool) → wants_command c.facts ChangeReadColumnConfirm ≡ b → Told (not (wants_command c.facts ChangeReadColumnConfirm)) (judged g c (CommandCycle ChangeReadColumnConfirm))
    at true e = rw e tt
    at false e = rw e refl

-- D1h and 11h, where they are declared
told_d1 : (g : Parts) (c : Lone) → not g.multi_plane ≡ false → Told (not (wants_command c.facts BlockErasePlane)) (judged g c (CommandCycle BlockErasePlane))
unfolding breaks_command_unknown breaks_sequence_open breaks_several_luns breaks_no_column_to_change breaks_command_misplaced breaks_address_misplaced breaks_row_outside breaks_lun_busy breaks_queue_clash breaks_input_misplaced breaks_no_sole_driver breaks_data_not_ready breaks_column_outside breaks_cache_read_misplaced breaks_cache_program_misplaced breaks_copyback_misplaced breaks_plane_not_held
told_d1 g c fit = at (wants_command c.facts BlockErasePlane) refl
  where
    at : (b : Bool) → wants_command c.facts BlockErasePlane ≡ b → Told (not (wants_command c.facts BlockErasePlane)) (judged g c (CommandCycle BlockErasePlane))
    at true e = rw (fit, e) tt
    at false e = rw (fit, e) refl

told_11 : (g : Parts) (c : Lone) → not g.multi_plane ≡ false → Told (not (wants_command c.facts ProgramPlane)) (judged g c (CommandCycle ProgramPlane))
unfolding breaks_command_unknown breaks_sequence_open breaks_several_luns breaks_no_column_to_change breaks_command_misplaced breaks_address_misplaced breaks_row_outside breaks_lun_busy breaks_queue_clash breaks_input_misplaced breaks_no_sole_driver breaks_data_not_ready breaks_column_outside breaks_cache_read_misplaced breaks_cache_program_misplaced breaks_copyback_misplaced breaks_plane_not_held
told_11 g c fit = at (wants_command c.facts ProgramPlane) refl
  where
    at : (b : Bool) → wants_command c.facts ProgramPlane ≡ b → Told (not (wants_command c.facts ProgramPlane)) (judged g c (CommandCycle ProgramPlane))
    at true e = rw (fit, e) tt
    at false e = rw (fit, e) refl

-- 31h and 3Fh, where they are declared; a 31h that the tail wants comes amid a sequence
told_row_31 : (g : Parts) (c : Lone) → not g.cache ≡ false → wants_command c.facts ReadCacheSequential ≡ true → Told true (judged g c (CommandCycle ReadCacheSequential))
unfolding breaks_command_unknown breaks_sequence_open breaks_several_luns breaks_no_column_to_change breaks_command_misplaced breaks_address_misplaced breaks_row_outside breaks_lun_busy breaks_queue_clash breaks_input_misplaced breaks_no_sole_driver breaks_data_not_ready breaks_column_outside breaks_cache_read_misplaced breaks_cache_program_misplaced breaks_copyback_misplaced breaks_plane_not_held
told_row_31 g c fit wants = at (is_open c.facts) refl
  where
    at : (o : Bool) → is_open c.facts ≡ o → Told true (judged g c (CommandCycle ReadCacheSequential))
    at true e = rw (fit, wants, e) refl
    at false e = let none = closed_unwanted c.facts e in let both : true ≡ false = sym wants ∙ none in cc

told_31 : (g : Parts) (c : Lone) → not g.cache ≡ false → wants_command c.facts ReadCacheSequential ≡ false → (is_page_read c.view.closer ≡ true → nat_le (length c.view.held) 1 ≡ true) → Told (is_open c.facts || (not (drives (shows_of c.view.latch)) || c.view.busy || not (is_page_read c.view.closer) || not (nat_le (c.view.array_page.page + 2) g.pages))) (judged g c (CommandCycle ReadCacheSequential))
unfolding breaks_command_unknown breaks_sequence_open breaks_several_luns breaks_no_column_to_change breaks_command_misplaced breaks_address_misplaced breaks_row_outside breaks_lun_busy breaks_queue_clash breaks_input_misplaced breaks_no_sole_driver breaks_data_not_ready breaks_column_outside breaks_cache_read_misplaced breaks_cache_program_misplaced breaks_copyback_misplaced breaks_plane_not_held
told_31 g c fit unwanted held = at (is_open c.facts) refl c.view.latch refl c.view.busy refl (is_page_read c.view.closer) refl (nat_le (c.view.array_page.page + 2) g.pages) refl
  where
    next : (b : Bool) → nat_le (c.view.array_page.page + 2) g.pages ≡ b → ltb (c.view.array_page.page + 1) g.pages ≡ b
    next true e = grind (arith, nat_tests, e)
    next false e = grind (arith, nat_tests, e)

    at : (o : Bool) → is_open c.facts ≡ o → (x : Latch) → c.view.latch ≡ x → (b : Bool) → c.view.busy ≡ b → (q : Bool) → is_page_read c.view.closer ≡ q → (n : Bool) → nat_le (c.view.array_page.page + 2) g.pages ≡ n → Told (is_open c.facts || (not (drives (shows_of c.view.latch)) || c.view.busy || not (is_page_read c.view.closer) || not (nat_le (c.view.array_page.page + 2) g.pages))) (judged g c (CommandCycle ReadCacheSequential))
    at true e x k b f q h n i = rw (fit, unwanted, e) refl
    at false e Off k b f q h n i = rw (fit, unwanted, e, k) refl
    at false e Status k true f q h n i = rw (fit, unwanted, e, k, f) refl
    at false e Status k false f false h n i = rw (fit, unwanted, e, k, f, h) refl
    at false e Status k false f true h true i = rw (fit, unwanted, e, k, f, h, held h, i, next true i) tt
    at false e Status k false f true h false i = rw (fit, unwanted, e, k, f, h, held h, i, next false i) refl
    at false e Data k true f q h n i = rw (fit, unwanted, e, k, f) refl
    at false e Data k false f false h n i = rw (fit, unwanted, e, k, f, h) refl
    at false e Data k false f true h true i = rw (fit, unwanted, e, k, f, h, held h, i, next true i) tt
    at false e Data k false f true h false i = rw (fit, unwanted, e, k, f, h, held h, i, next false i) refl

caches_a_page : (o : Option Command) → is_page_read o ≡ false → is_cache_read o ≡ false
caches_a_page None h = refl
caches_a_page (Some ReadConfirm) h = cc
caches_a_page (Some ReadCacheSequential) h = cc
caches_a_page (Some _) h = refl

told_3f : (g : Parts) (c : Lone) → not g.cache ≡ false → Told (is_open c.facts || (not (drives (shows_of c.view.latch)) || c.view.busy || not (is_page_read c.view.closer) || not (is_cache_read c.view.closer))) (judged g c (CommandCycle ReadCacheEnd))
unfolding breaks_command_unknown breaks_sequence_open breaks_several_luns breaks_no_column_to_change breaks_command_misplaced breaks_address_misplaced breaks_row_outside breaks_lun_busy breaks_queue_clash breaks_input_misplaced breaks_no_sole_driver breaks_data_not_ready breaks_column_outside breaks_cache_read_misplaced breaks_cache_program_misplaced breaks_copyback_misplaced breaks_plane_not_held
told_3f g c fit = at (is_open c.facts) refl c.view.latch refl c.view.busy refl (is_page_read c.view.closer) refl (is_cache_read c.view.closer) refl
  where
    at : (o : Bool) → is_open c.facts ≡ o → (x : Latch) → c.view.latch ≡ x → (b : Bool) → c.view.busy ≡ b → (q : Bool) → is_page_read c.view.closer ≡ q → (n : Bool) → is_cache_read c.view.closer ≡ n → Told (is_open c.facts || (not (drives (shows_of c.view.latch)) || c.view.busy || not (is_page_read c.view.closer) || not (is_cache_read c.view.closer))) (judged g c (CommandCycle ReadCacheEnd))
    at true e x k b f q h n i = rw (fit, e) refl
    at false e Off k b f q h n i = rw (fit, e, k) refl
    at false e Status k true f q h n i = rw (fit, e, k, f) refl
    at false e Status k false f false h n i = let none = caches_a_page c.view.closer h in rw (fit, e, k, f, h, none) refl
    at false e Status k false f true h true i = rw (fit, e, k, f, h, i) tt
    at false e Status k false f true h false i = rw (fit, e, k, f, h, i) refl
    at false e Data k true f q h n i = rw (fit, e, k, f) refl
    at false e Data k false f false h n i = let none = caches_a_page c.view.closer h in rw (fit, e, k, f, h, none) refl
    at false e Data k false f true h true i = rw (fit, e, k, f, h, i) tt
    at false e Data k false f true h false i = rw (fit, e, k, f, h, i) refl

-- a part of a test counts only where another is false
or_where : (o x y : Bool) → (o ≡ false → x ≡ y) → (o || x) ≡ (o || y)
or_where true x y h = refl
or_where false x y h = h refl

or_second : (a b : Bool) → (a || b) ≡ false → b ≡ false
or_second true b h = cc
or_second false b h = h

not_where : (w d : Bool) → (w ≡ true → d ≡ true) → (not w || not d) ≡ not w
not_where true d h = ap not (h refl)
not_where false d h = refl

-- E0h is wanted only where the LUN drives
pub shows_may_change : (v : LunView) → may_change_column v ≡ true → drives (shows_of v.latch) ≡ true
shows_may_change v h = at v.latch h
  where
    at : (x : Latch) → (is_data x && (not v.busy && is_page_or_parameters v.register)) ≡ true → drives (shows_of x) ≡ true
    at Off h = cc
    at Status h = cc
    at Data h = refl

wants_change : (p : Place) → is_base_place p ≡ true → place_wants ChangeReadColumnConfirm p ≡ true → is_read_column p ≡ true
wants_change Closed base h = cc
wants_change InData base h = cc
wants_change (InColumn n) base h = cc
wants_change (InFeatures n) base h = cc
wants_change UnknownPlace base h = cc
wants_change (After ChangeReadColumn n) base h = refl
wants_change (After ChangeReadColumnEnhanced n) base h = cc
wants_change (After Read n) base h = cc
wants_change (After BlockErase n) base h = cc
wants_change (After _ n) base h = cc

-- no plane is selected in the base profile
pub selects_none : (p : Place) → is_base_place p ≡ true → selects_plane_at p ≡ false
selects_none Closed base = refl
selects_none InData base = refl
selects_none (InColumn n) base = refl
selects_none (InFeatures n) base = refl
selects_none UnknownPlace base = refl
selects_none (After ChangeReadColumnEnhanced n) base = cc
selects_none (After _ n) base = refl

-- the base profile has no command of the wider one
pub barred : (w b : Bool) → w ≡ false → (not w || b) ≡ false → ⊥
barred true b e h = cc
barred false b e h = cc

-- in the base profile no 85 begins a sequence
only_goes_on : (g : Parts) (free w : Bool) → is_wide g.optional ≡ false → cond (true && not (w || not (has_copyback g.optional))) free (not w || false) ≡ not w
only_goes_on g free w base = ap (λ (b : Bool). cond (true && not (w || not b)) free (not w || false)) (ap (λ (b : Bool). b && has_all g.optional 16) base) ∙ at w
  where
    at : (w : Bool) → cond (true && not (w || true)) free (not w || false) ≡ not w
    at true = refl
    at false = refl

pub told_command : (g : Parts) (j : Job) (v : State) (done : List Done) (c : Lone) (d : Command) → ltb 1 g.luns ≡ false → is_wide g.optional ≡ false → g.pages ≤ greatest_bound → Mirrors g j v done c → is_unfit g d ≡ false → Told (command_out_of_place g v d) (judged g c (CommandCycle d))
told_command g j v done c d one base low m h = by d h
  where
    shut : may_be_open v ≡ is_open c.facts
    shut = open_same g j v done c m

    wanted : (d : Command) → not (place_wants d v.target.tail) ≡ not (wants_command c.facts d)
    wanted d = ap not (ap (place_wants d) m.tail.single ∙ wants_same m.tail.place m.tail.address c.facts d m.tail.is)

    fitting : (d : Command) → is_unfit g d ≡ false → command_out_of_place g v d ≡ cond (is_opener d && not (goes_on_at g d v.target.tail)) ((not (may_end_sequence g d) && may_be_open v) || opener_refused g v d) (not (place_wants d v.target.tail) || closer_refused g v d)
    fitting d fit = ap (λ (b : Bool). cond b false (cond (is_opener d && not (goes_on_at g d v.target.tail)) ((not (may_end_sequence g d) && may_be_open v) || opener_refused g v d) (not (place_wants d v.target.tail) || closer_refused g v d))) fit

    drive : place_wants ChangeReadColumnConfirm v.target.tail ≡ true → drives v.target.shows ≡ true
    drive h = ap drives m.shows ∙ shows_may_change c.view (m.tail.changes (wants_change m.tail.place m.tail.base (sym (ap (place_wants ChangeReadColumnConfirm) m.tail.single) ∙ h)))

    page_test : may_be_other v.lun.last ≡ false → not (is_at_most (bound_plus v.lun.cached.page.hi 2) g.pages) ≡ not (nat_le (c.view.array_page.page + 2) g.pages)
    page_test e = ap (λ (o : Option ℕ). not (is_at_most (bound_plus o 2) g.pages)) (m.lun.cached_page e) ∙ ap not (exact_test c.view.array_page.page 2 g.pages low)

    by : (d : Command) → is_unfit g d ≡ false → Told (command_out_of_place g v d) (judged g c (CommandCycle d))
    by Read h = told_by _ _ _ (λ i. shut i || m.lun.busy i) (told_read g c)
    by BlockErase h = told_by _ _ _ (λ i. shut i || m.lun.busy i) (told_erase g c)
    by PageProgram h = told_by _ _ _ (λ i. shut i || m.lun.busy i) (told_program g c)
    by ReadStatus h = told_by _ _ _ (λ i. shut i || false) (told_status g c one)
    by Reset h = told_by _ _ _ (λ i. (not (base i) && shut i) || false) (told_reset g c one base)
    by ChangeReadColumn h = told_by _ _ _ (λ i. shut i || (not (shows_only_data (m.shows i)) || m.lun.busy i || not (has_page_or_parameters (m.lun.register i)))) (told_change g c m.lun.known)
    by ReadId h = told_by _ _ _ (λ i. shut i || (not (one i) && (m.lun.busy i || queue_same g _ v.lun.queue c.view.queue m.lun.queue i || m.lun.caching i || m.lun.programming i))) (told_identity g c one m.lun.no_program)
    by ReadParameterPage h = told_by _ _ _ (λ i. shut i || (not (one i) && (m.lun.busy i || queue_same g _ v.lun.queue c.view.queue m.lun.queue i || m.lun.caching i || m.lun.programming i))) (told_parameters g c one m.lun.no_program)
    by ReadConfirm h = told_by _ _ _ (ap (λ (w : Bool). not (place_wants ReadConfirm v.target.tail) || (w && may_be_31 v.lun.last)) base ∙ (or-false _ ∙ wanted ReadConfirm)) (told_30 g c)
    by BlockEraseConfirm h = told_by _ _ _ (or-false _ ∙ wanted BlockEraseConfirm) (told_d0 g c)
    by ProgramConfirm h = told_by _ _ _ (or-false _ ∙ wanted ProgramConfirm) (told_10 g c)
    by ChangeWriteColumn h = told_by _ _ _ (fitting ChangeWriteColumn h ∙ (only_goes_on g (may_be_open v || v.lun.busy) (place_wants ChangeWriteColumn v.target.tail) base ∙ wanted ChangeWriteColumn)) (told_85 g c)
    by ReadStatusEnhanced h = told_by _ _ _ (fitting ReadStatusEnhanced h ∙ (λ i. shut i || false)) (told_enhanced g c (not-false g.enhanced h))
    by ChangeReadColumnConfirm h =
        told_by _ _ _
        (ap (λ (b : Bool). not (place_wants ChangeReadColumnConfirm v.target.tail) || (not b && not (drives v.target.shows))) (ap selects_plane_at m.tail.single ∙ selects_none m.tail.place m.tail.base)
        ∙ (not_where _ _ drive ∙ wanted ChangeReadColumnConfirm)) (told_e0 g c)
    by BlockErasePlane h = told_by _ _ _ (fitting BlockErasePlane h ∙ (or-false _ ∙ wanted BlockErasePlane)) (told_d1 g c h)
    by ProgramPlane h = told_by _ _ _ (fitting ProgramPlane h ∙ (or-false _ ∙ wanted ProgramPlane)) (told_11 g c h)
    by ReadCacheSequential h = at (wants_command c.facts ReadCacheSequential) refl
      where
        placed : place_wants ReadCacheSequential v.target.tail ≡ wants_command c.facts ReadCacheSequential
        placed = ap (place_wants ReadCacheSequential) m.tail.single ∙ wants_same m.tail.place m.tail.address c.facts ReadCacheSequential m.tail.is

        by_place : (b : Bool) → place_wants ReadCacheSequential v.target.tail ≡ b → command_out_of_place g v ReadCacheSequential ≡ cond (not b) (may_be_open v || opener_refused g v ReadCacheSequential) (not b || closer_refused g v ReadCacheSequential)
        by_place b e = fitting ReadCacheSequential h ∙ ap (λ (x : Bool). cond (not x) (may_be_open v || opener_refused g v ReadCacheSequential) (not x || closer_refused g v ReadCacheSequential)) e

        at : (b : Bool) → wants_command c.facts ReadCacheSequential ≡ b → Told (command_out_of_place g v ReadCacheSequential) (judged g c (CommandCycle ReadCacheSequential))
        at true e = told_by _ _ _ (by_place true (placed ∙ e) ∙ ap (λ (w : Bool). not w || may_be_other v.lun.last) base) (told_row_31 g c h e)
        at false e =
            told_by _ _ _
            (by_place false (placed ∙ e) ∙ (ap (λ (b : Bool). may_be_open v || b) (or_where (not (drives v.target.shows) || v.lun.busy || may_be_other v.lun.last) _ _ (λ e. page_test (or_second _ _ e)))
            ∙ (λ i. shut i || (not (drives (m.shows i)) || m.lun.busy i || m.lun.other i || not (nat_le (c.view.array_page.page + 2) g.pages)))))
            (told_31 g c h e (λ read. m.lun.held (m.lun.other ∙ ap not read)))
    by ReadCacheEnd h =
        told_by _ _ _
        (fitting ReadCacheEnd h ∙ (ap (λ (b : Bool). may_be_open v || b) (or_where (not (drives v.target.shows) || v.lun.busy || may_be_other v.lun.last) _ _ (λ e. m.lun.read (or_second _ _ e)))
        ∙ (λ i. shut i || (not (drives (m.shows i)) || m.lun.busy i || m.lun.other i || not (is_cache_read c.view.closer)))))
        (told_3f g c h)
    by ChangeReadColumnEnhanced h = absurd (barred (is_wide g.optional) (not (has_enhanced_column g.optional)) base h)
    by ReadPlane h = absurd (barred (is_wide g.optional) (not (has_plane_reads g.optional)) base h)
    by CopybackRead h = absurd (barred (is_wide g.optional) (not (has_copyback g.optional)) base h)
    by ProgramCache h = absurd (barred (is_wide g.optional) (not (has_program_cache g.optional)) base h)
    by ReadUniqueId h = absurd (barred (is_wide g.optional) (not (has_unique_id g.optional)) base h)
    by GetFeatures h = absurd (barred (is_wide g.optional) (not (has_features g.optional)) base h)
    by SetFeatures h = absurd (barred (is_wide g.optional) (not (has_features g.optional)) base h)
    by ResetLun h = absurd (barred (is_wide g.optional) (not (has_lun_reset g.optional)) base h)
    by SynchronousReset h = absurd (barred (is_wide g.optional) (not (has_synchronous_reset g.optional)) base h)
    by Unknown h = cc
