-- What a scene allows is permitted and the LUN's own.
use Rattle.std.specs.List.{list_any}
use Rattle.std.proofs.Common.{◌≡◌, ℕ, ◌<◌, Bool, true, false, ◌&&◌, ◌||◌, not, ltb, nat_le, Option, Some, None, List, refl, sym, ap, ◌∙◌, subst, arith, ltb-false, eqb-true, inl, inr}
use Rattle.std.proofs.lemmas.Bool.{and_right, or_from, and_parts}
use Rattle.std.proofs.Math.Bool.{and-false}
use Rattle.nand_geometry.specs.declared.parts.Parts.{Parts}
use Rattle.nand_geometry.specs.Limits.{page_len}
use Rattle.nand_geometry.specs.Row.{parts_of}
use Rattle.nand_geometry.specs.Optional.{has_all, is_wide, has_features, has_unique_id, has_enhanced_column, has_lun_reset, has_plane_reads, has_synchronous_reset, has_copyback, has_program_cache, has_group_cache}
use Rattle.onfi_cycle.specs.declared.command.Command.{Command}
use Rattle.onfi_cycle.specs.declared.command.Command.TheVariants.{Read, ReadConfirm, ChangeReadColumn, ChangeReadColumnConfirm, BlockErase, BlockEraseConfirm, BlockErasePlane, ReadStatus, ReadStatusEnhanced, PageProgram, ChangeWriteColumn, ProgramConfirm, ProgramPlane, ReadId, ReadParameterPage, Reset, ReadCacheSequential, ReadCacheEnd, ReadUniqueId, GetFeatures, SetFeatures, ResetLun, SynchronousReset, Unknown, ChangeReadColumnEnhanced, ReadPlane, CopybackRead, ProgramCache}
use Rattle.onfi_cycle.specs.declared.lun.Lun.{Lun}
use Rattle.onfi_cycle.specs.declared.item.Item.{Item}
use Rattle.onfi_cycle.specs.declared.opening.Opening.{Opening}
use Rattle.onfi_cycle.specs.declared.page_address.PageAddress.{PageAddress}
use Rattle.onfi_cycle.specs.declared.queued.Queued.{Queued}
use Rattle.onfi_cycle.specs.declared.tail_facts.TailFacts.{TailFacts}
use Rattle.onfi_cycle.specs.declared.target_cycle.TargetCycle.TheVariants.{CommandCycle, AddressCycle, InputCycle, OutputCycle}
use Rattle.onfi_cycle.specs.LunView.{LunView}
use Rattle.onfi_cycle.specs.Command.{at_last_row, addresses_the_array, is_change_read_column, is_enhanced_column, is_page_program, is_write_column}
use Rattle.onfi_cycle.specs.Sequence.{opened, is_open, takes_inputs, takes_features, wants_command, wants_address, row_with, column_with, input_column, row}
use Rattle.onfi_cycle.specs.Effect.{is_shared, page_address, names_lun}
use Rattle.onfi_cycle.specs.Lun.{lun_view, luns_of, views_from, programs}
use Rattle.onfi_cycle.specs.Rules.{ends_row, named_lun_is, works_for_target, is_some_and, driver, second_of_page, second_column, caching, has_read_one, continues_cache, ends_cache, may_change_column, has_some, may_copy, is_refused_by, register_len, has_no_byte, is_past_register, breaks_command_unknown, breaks_sequence_open, breaks_several_luns, breaks_no_column_to_change, breaks_command_misplaced, breaks_address_misplaced, breaks_row_outside, breaks_lun_busy, breaks_queue_clash, breaks_input_misplaced, breaks_no_sole_driver, breaks_data_not_ready, breaks_column_outside, breaks_cache_read_misplaced, breaks_cache_program_misplaced, breaks_copyback_misplaced, breaks_plane_not_held, excludes_cache, is_copying, holds_plane_of, holds_none, excludes_program}
use Rattle.onfi_cycle.specs.Permitted.{judge_cycle}
use Rattle.onfi_cycle.specs.Channel.{Channel, is_there}
use Rattle.micro_program.proofs.Below.{facts}
use Rattle.micro_program.proofs.Basics.{there_lun}
use Rattle.micro_program.proofs.Views.{some_at, passes_at}
use Rattle.micro_program.proofs.Scenes.{Scene, IsScene, CommandAllowed, AddressAllowed, closed_unwanted}

-- 1. commands

-- what is shared has several LUNs, in the wider profile
shared_by : (g : Parts) → is_wide g.optional ≡ true → ltb 1 g.luns ≡ true → is_shared g ≡ true
shared_by g e f = rw (e, f) refl

judge_read : (g : Parts) (t : TailFacts) (luns : List LunView) → is_open t ≡ false → list_any (λ v. not v.busy) luns ≡ true → judge_cycle g t luns (CommandCycle Read) ≡ None
unfolding breaks_command_unknown breaks_sequence_open breaks_several_luns breaks_no_column_to_change breaks_command_misplaced breaks_address_misplaced breaks_row_outside breaks_lun_busy breaks_queue_clash breaks_input_misplaced breaks_no_sole_driver breaks_data_not_ready breaks_column_outside breaks_cache_read_misplaced breaks_cache_program_misplaced breaks_copyback_misplaced breaks_plane_not_held
judge_read g t luns closed ready = at (is_wide g.optional) (ltb 1 g.luns) refl refl
  where
    at : (w several : Bool) → is_wide g.optional ≡ w → ltb 1 g.luns ≡ several → judge_cycle g t luns (CommandCycle Read) ≡ None
    at true true e f = rw (e, f, closed, ready) refl
    at true false e f = rw (e, f, closed, ready) refl
    at false several e f = rw (e, closed, ready) refl

judge_06 : (g : Parts) (t : TailFacts) (luns : List LunView) → is_open t ≡ false → list_any (λ v. not v.busy) luns ≡ true → has_enhanced_column g.optional ≡ true → judge_cycle g t luns (CommandCycle ChangeReadColumnEnhanced) ≡ None
unfolding breaks_command_unknown breaks_sequence_open breaks_several_luns breaks_no_column_to_change breaks_command_misplaced breaks_address_misplaced breaks_row_outside breaks_lun_busy breaks_queue_clash breaks_input_misplaced breaks_no_sole_driver breaks_data_not_ready breaks_column_outside breaks_cache_read_misplaced breaks_cache_program_misplaced breaks_copyback_misplaced breaks_plane_not_held
judge_06 g t luns closed ready declared = at (is_wide g.optional) (ltb 1 g.luns) refl refl
  where
    at : (w several : Bool) → is_wide g.optional ≡ w → ltb 1 g.luns ≡ several → judge_cycle g t luns (CommandCycle ChangeReadColumnEnhanced) ≡ None
    at true true e f = rw (e, f, closed, ready, declared) refl
    at true false e f = rw (e, f, closed, ready, declared) refl
    at false several e f = rw (e, closed, ready, declared) refl

judge_erase : (g : Parts) (t : TailFacts) (luns : List LunView) → is_open t ≡ false → list_any (λ v. not v.busy) luns ≡ true → judge_cycle g t luns (CommandCycle BlockErase) ≡ None
unfolding breaks_command_unknown breaks_sequence_open breaks_several_luns breaks_no_column_to_change breaks_command_misplaced breaks_address_misplaced breaks_row_outside breaks_lun_busy breaks_queue_clash breaks_input_misplaced breaks_no_sole_driver breaks_data_not_ready breaks_column_outside breaks_cache_read_misplaced breaks_cache_program_misplaced breaks_copyback_misplaced breaks_plane_not_held
judge_erase g t luns closed ready = at (is_wide g.optional) (ltb 1 g.luns) refl refl
  where
    at : (w several : Bool) → is_wide g.optional ≡ w → ltb 1 g.luns ≡ several → judge_cycle g t luns (CommandCycle BlockErase) ≡ None
    at true true e f = rw (e, f, closed, ready) refl
    at true false e f = rw (e, f, closed, ready) refl
    at false several e f = rw (e, closed, ready) refl

judge_program : (g : Parts) (t : TailFacts) (luns : List LunView) → is_open t ≡ false → list_any (λ v. not v.busy) luns ≡ true → judge_cycle g t luns (CommandCycle PageProgram) ≡ None
unfolding breaks_command_unknown breaks_sequence_open breaks_several_luns breaks_no_column_to_change breaks_command_misplaced breaks_address_misplaced breaks_row_outside breaks_lun_busy breaks_queue_clash breaks_input_misplaced breaks_no_sole_driver breaks_data_not_ready breaks_column_outside breaks_cache_read_misplaced breaks_cache_program_misplaced breaks_copyback_misplaced breaks_plane_not_held
judge_program g t luns closed ready = at (is_wide g.optional) (ltb 1 g.luns) refl refl
  where
    at : (w several : Bool) → is_wide g.optional ≡ w → ltb 1 g.luns ≡ several → judge_cycle g t luns (CommandCycle PageProgram) ≡ None
    at true true e f = rw (e, f, closed, ready) refl
    at true false e f = rw (e, f, closed, ready) refl
    at false several e f = rw (e, closed, ready) refl

judge_read_column : (g : Parts) (t : TailFacts) (luns : List LunView) (v : LunView) → is_open t ≡ false → list_any (λ w. not w.busy) luns ≡ true → driver luns ≡ Some v → may_change_column v ≡ true → judge_cycle g t luns (CommandCycle ChangeReadColumn) ≡ None
unfolding breaks_command_unknown breaks_sequence_open breaks_several_luns breaks_no_column_to_change breaks_command_misplaced breaks_address_misplaced breaks_row_outside breaks_lun_busy breaks_queue_clash breaks_input_misplaced breaks_no_sole_driver breaks_data_not_ready breaks_column_outside breaks_cache_read_misplaced breaks_cache_program_misplaced breaks_copyback_misplaced breaks_plane_not_held
judge_read_column g t luns v closed ready one may = at (is_wide g.optional) (ltb 1 g.luns) refl refl
  where
    at : (w several : Bool) → is_wide g.optional ≡ w → ltb 1 g.luns ≡ several → judge_cycle g t luns (CommandCycle ChangeReadColumn) ≡ None
    at true true e f = rw (e, f, closed, ready, one, may) refl
    at true false e f = rw (e, f, closed, ready, one, may) refl
    at false several e f = rw (e, closed, ready, one, may) refl

judge_status : (g : Parts) (t : TailFacts) (luns : List LunView) → is_open t ≡ false → ltb 1 g.luns ≡ false → judge_cycle g t luns (CommandCycle ReadStatus) ≡ None
unfolding breaks_command_unknown breaks_sequence_open breaks_several_luns breaks_no_column_to_change breaks_command_misplaced breaks_address_misplaced breaks_row_outside breaks_lun_busy breaks_queue_clash breaks_input_misplaced breaks_no_sole_driver breaks_data_not_ready breaks_column_outside breaks_cache_read_misplaced breaks_cache_program_misplaced breaks_copyback_misplaced breaks_plane_not_held
judge_status g t luns closed one = at (is_wide g.optional) refl
  where
    at : (w : Bool) → is_wide g.optional ≡ w → judge_cycle g t luns (CommandCycle ReadStatus) ≡ None
    at true e = rw (e, closed, one) refl
    at false e = rw (e, closed, one) refl

judge_enhanced : (g : Parts) (t : TailFacts) (luns : List LunView) → is_open t ≡ false → g.enhanced ≡ true → (is_shared g && list_any works_for_target luns) ≡ false → judge_cycle g t luns (CommandCycle ReadStatusEnhanced) ≡ None
unfolding breaks_command_unknown breaks_sequence_open breaks_several_luns breaks_no_column_to_change breaks_command_misplaced breaks_address_misplaced breaks_row_outside breaks_lun_busy breaks_queue_clash breaks_input_misplaced breaks_no_sole_driver breaks_data_not_ready breaks_column_outside breaks_cache_read_misplaced breaks_cache_program_misplaced breaks_copyback_misplaced breaks_plane_not_held
judge_enhanced g t luns closed enhanced free = at (is_wide g.optional) (ltb 1 g.luns) refl refl
  where
    at : (w several : Bool) → is_wide g.optional ≡ w → ltb 1 g.luns ≡ several → judge_cycle g t luns (CommandCycle ReadStatusEnhanced) ≡ None
    at true true e f = let none : list_any works_for_target luns ≡ false = ap (λ (b : Bool). b && list_any works_for_target luns) (sym (shared_by g e f)) ∙ free in rw (e, f, closed, enhanced, none) refl
    at true false e f = rw (e, f, closed, enhanced) refl
    at false several e f = rw (e, closed, enhanced) refl

judge_reset : (g : Parts) (t : TailFacts) (luns : List LunView) → (is_open t && not (is_wide g.optional)) ≡ false → ltb 1 g.luns ≡ false → judge_cycle g t luns (CommandCycle Reset) ≡ None
unfolding breaks_command_unknown breaks_sequence_open breaks_several_luns breaks_no_column_to_change breaks_command_misplaced breaks_address_misplaced breaks_row_outside breaks_lun_busy breaks_queue_clash breaks_input_misplaced breaks_no_sole_driver breaks_data_not_ready breaks_column_outside breaks_cache_read_misplaced breaks_cache_program_misplaced breaks_copyback_misplaced breaks_plane_not_held
judge_reset g t luns closed one = at (is_wide g.optional) refl
  where
    at : (w : Bool) → is_wide g.optional ≡ w → judge_cycle g t luns (CommandCycle Reset) ≡ None
    at true e = rw (closed, e, one) refl
    at false e = rw (closed, e, one) refl

judge_synchronous : (g : Parts) (t : TailFacts) (luns : List LunView) → (is_open t && not (is_wide g.optional)) ≡ false → ltb 1 g.luns ≡ false → has_synchronous_reset g.optional ≡ true → judge_cycle g t luns (CommandCycle SynchronousReset) ≡ None
unfolding breaks_command_unknown breaks_sequence_open breaks_several_luns breaks_no_column_to_change breaks_command_misplaced breaks_address_misplaced breaks_row_outside breaks_lun_busy breaks_queue_clash breaks_input_misplaced breaks_no_sole_driver breaks_data_not_ready breaks_column_outside breaks_cache_read_misplaced breaks_cache_program_misplaced breaks_copyback_misplaced breaks_plane_not_held
judge_synchronous g t luns closed one declared = at (is_wide g.optional) refl
  where
    at : (w : Bool) → is_wide g.optional ≡ w → judge_cycle g t luns (CommandCycle SynchronousReset) ≡ None
    at true e = rw (closed, e, one, declared) refl
    at false e = rw (closed, e, one, declared) refl

judge_lun_reset : (g : Parts) (t : TailFacts) (luns : List LunView) → is_open t ≡ false → has_lun_reset g.optional ≡ true → judge_cycle g t luns (CommandCycle ResetLun) ≡ None
unfolding breaks_command_unknown breaks_sequence_open breaks_several_luns breaks_no_column_to_change breaks_command_misplaced breaks_address_misplaced breaks_row_outside breaks_lun_busy breaks_queue_clash breaks_input_misplaced breaks_no_sole_driver breaks_data_not_ready breaks_column_outside breaks_cache_read_misplaced breaks_cache_program_misplaced breaks_copyback_misplaced breaks_plane_not_held
judge_lun_reset g t luns closed declared = at (is_wide g.optional) (ltb 1 g.luns) refl refl
  where
    at : (w several : Bool) → is_wide g.optional ≡ w → ltb 1 g.luns ≡ several → judge_cycle g t luns (CommandCycle ResetLun) ≡ None
    at true true e f = rw (e, f, closed, declared) refl
    at true false e f = rw (e, f, closed, declared) refl
    at false several e f = rw (e, closed, declared) refl

judge_id : (g : Parts) (t : TailFacts) (luns : List LunView) → is_open t ≡ false → ltb 1 g.luns ≡ false → list_any (λ v. not v.busy) luns ≡ true → list_any (λ v. has_some v.queue) luns ≡ false → list_any caching luns ≡ false → list_any programs luns ≡ false → judge_cycle g t luns (CommandCycle ReadId) ≡ None
unfolding breaks_command_unknown breaks_sequence_open breaks_several_luns breaks_no_column_to_change breaks_command_misplaced breaks_address_misplaced breaks_row_outside breaks_lun_busy breaks_queue_clash breaks_input_misplaced breaks_no_sole_driver breaks_data_not_ready breaks_column_outside breaks_cache_read_misplaced breaks_cache_program_misplaced breaks_copyback_misplaced breaks_plane_not_held
judge_id g t luns closed one ready queue cache program = at (is_wide g.optional) refl
  where
    at : (w : Bool) → is_wide g.optional ≡ w → judge_cycle g t luns (CommandCycle ReadId) ≡ None
    at true e = rw (e, closed, one, ready, queue, cache, program) refl
    at false e = rw (e, closed, one, ready, queue, cache, program) refl

judge_parameters : (g : Parts) (t : TailFacts) (luns : List LunView) → is_open t ≡ false → ltb 1 g.luns ≡ false → list_any (λ v. not v.busy) luns ≡ true → list_any (λ v. has_some v.queue) luns ≡ false → list_any caching luns ≡ false → list_any programs luns ≡ false → judge_cycle g t luns (CommandCycle ReadParameterPage) ≡ None
unfolding breaks_command_unknown breaks_sequence_open breaks_several_luns breaks_no_column_to_change breaks_command_misplaced breaks_address_misplaced breaks_row_outside breaks_lun_busy breaks_queue_clash breaks_input_misplaced breaks_no_sole_driver breaks_data_not_ready breaks_column_outside breaks_cache_read_misplaced breaks_cache_program_misplaced breaks_copyback_misplaced breaks_plane_not_held
judge_parameters g t luns closed one ready queue cache program = at (is_wide g.optional) refl
  where
    at : (w : Bool) → is_wide g.optional ≡ w → judge_cycle g t luns (CommandCycle ReadParameterPage) ≡ None
    at true e = rw (e, closed, one, ready, queue, cache, program) refl
    at false e = rw (e, closed, one, ready, queue, cache, program) refl

judge_unique_id : (g : Parts) (t : TailFacts) (luns : List LunView) → is_open t ≡ false → ltb 1 g.luns ≡ false → list_any (λ v. not v.busy) luns ≡ true → list_any (λ v. has_some v.queue) luns ≡ false → list_any caching luns ≡ false → list_any programs luns ≡ false → has_unique_id g.optional ≡ true → judge_cycle g t luns (CommandCycle ReadUniqueId) ≡ None
unfolding breaks_command_unknown breaks_sequence_open breaks_several_luns breaks_no_column_to_change breaks_command_misplaced breaks_address_misplaced breaks_row_outside breaks_lun_busy breaks_queue_clash breaks_input_misplaced breaks_no_sole_driver breaks_data_not_ready breaks_column_outside breaks_cache_read_misplaced breaks_cache_program_misplaced breaks_copyback_misplaced breaks_plane_not_held
judge_unique_id g t luns closed one ready queue cache program declared = at (is_wide g.optional) refl
  where
    at : (w : Bool) → is_wide g.optional ≡ w → judge_cycle g t luns (CommandCycle ReadUniqueId) ≡ None
    at true e = rw (e, closed, one, ready, queue, cache, program, declared) refl
    at false e = rw (e, closed, one, ready, queue, cache, program, declared) refl

judge_features : (g : Parts) (t : TailFacts) (luns : List LunView) → is_open t ≡ false → ltb 1 g.luns ≡ false → list_any (λ v. not v.busy) luns ≡ true → list_any (λ v. has_some v.queue) luns ≡ false → list_any caching luns ≡ false → list_any programs luns ≡ false → has_features g.optional ≡ true → judge_cycle g t luns (CommandCycle GetFeatures) ≡ None
unfolding breaks_command_unknown breaks_sequence_open breaks_several_luns breaks_no_column_to_change breaks_command_misplaced breaks_address_misplaced breaks_row_outside breaks_lun_busy breaks_queue_clash breaks_input_misplaced breaks_no_sole_driver breaks_data_not_ready breaks_column_outside breaks_cache_read_misplaced breaks_cache_program_misplaced breaks_copyback_misplaced breaks_plane_not_held
judge_features g t luns closed one ready queue cache program declared = at (is_wide g.optional) refl
  where
    at : (w : Bool) → is_wide g.optional ≡ w → judge_cycle g t luns (CommandCycle GetFeatures) ≡ None
    at true e = rw (e, closed, one, ready, queue, cache, program, declared) refl
    at false e = rw (e, closed, one, ready, queue, cache, program, declared) refl

judge_set_features : (g : Parts) (t : TailFacts) (luns : List LunView) → is_open t ≡ false → ltb 1 g.luns ≡ false → list_any (λ v. not v.busy) luns ≡ true → list_any (λ v. has_some v.queue) luns ≡ false → list_any caching luns ≡ false → list_any programs luns ≡ false → has_features g.optional ≡ true → judge_cycle g t luns (CommandCycle SetFeatures) ≡ None
unfolding breaks_command_unknown breaks_sequence_open breaks_several_luns breaks_no_column_to_change breaks_command_misplaced breaks_address_misplaced breaks_row_outside breaks_lun_busy breaks_queue_clash breaks_input_misplaced breaks_no_sole_driver breaks_data_not_ready breaks_column_outside breaks_cache_read_misplaced breaks_cache_program_misplaced breaks_copyback_misplaced breaks_plane_not_held
judge_set_features g t luns closed one ready queue cache program declared = at (is_wide g.optional) refl
  where
    at : (w : Bool) → is_wide g.optional ≡ w → judge_cycle g t luns (CommandCycle SetFeatures) ≡ None
    at true e = rw (e, closed, one, ready, queue, cache, program, declared) refl
    at false e = rw (e, closed, one, ready, queue, cache, program, declared) refl

judge_cache : (g : Parts) (t : TailFacts) (luns : List LunView) (v : LunView) → is_open t ≡ false → g.cache ≡ true → driver luns ≡ Some v → continues_cache g v ≡ true → judge_cycle g t luns (CommandCycle ReadCacheSequential) ≡ None
unfolding breaks_command_unknown breaks_sequence_open breaks_several_luns breaks_no_column_to_change breaks_command_misplaced breaks_address_misplaced breaks_row_outside breaks_lun_busy breaks_queue_clash breaks_input_misplaced breaks_no_sole_driver breaks_data_not_ready breaks_column_outside breaks_cache_read_misplaced breaks_cache_program_misplaced breaks_copyback_misplaced breaks_plane_not_held
judge_cache g t luns v closed declared one passes = at (is_wide g.optional) (ltb 1 g.luns) refl refl
  where
    at : (w several : Bool) → is_wide g.optional ≡ w → ltb 1 g.luns ≡ several → judge_cycle g t luns (CommandCycle ReadCacheSequential) ≡ None
    at true true e f = rw (e, f, closed, declared, closed_unwanted t closed, one, passes) refl
    at true false e f = rw (e, f, closed, declared, closed_unwanted t closed, one, passes) refl
    at false several e f = rw (e, closed, declared, closed_unwanted t closed, one, passes) refl

judge_row_cache : (g : Parts) (t : TailFacts) (luns : List LunView) → wants_command t ReadCacheSequential ≡ true → is_wide g.optional ≡ true → g.cache ≡ true → named_lun_is g (row t) has_read_one luns ≡ true → judge_cycle g t luns (CommandCycle ReadCacheSequential) ≡ None
unfolding breaks_command_unknown breaks_sequence_open breaks_several_luns breaks_no_column_to_change breaks_command_misplaced breaks_address_misplaced breaks_row_outside breaks_lun_busy breaks_queue_clash breaks_input_misplaced breaks_no_sole_driver breaks_data_not_ready breaks_column_outside breaks_cache_read_misplaced breaks_cache_program_misplaced breaks_copyback_misplaced breaks_plane_not_held
judge_row_cache g t luns wants wide declared read = at (is_open t) (ltb 1 g.luns) refl refl
  where
    at : (opens several : Bool) → is_open t ≡ opens → ltb 1 g.luns ≡ several → judge_cycle g t luns (CommandCycle ReadCacheSequential) ≡ None
    at true true e f = rw (e, f, wide, declared, wants, read) refl
    at true false e f = rw (e, f, wide, declared, wants, read) refl
    at false true e f = rw (e, f, wide, declared, wants, read) refl
    at false false e f = rw (e, f, wide, declared, wants, read) refl

judge_cache_end : (g : Parts) (t : TailFacts) (luns : List LunView) (v : LunView) → is_open t ≡ false → g.cache ≡ true → driver luns ≡ Some v → ends_cache v ≡ true → judge_cycle g t luns (CommandCycle ReadCacheEnd) ≡ None
unfolding breaks_command_unknown breaks_sequence_open breaks_several_luns breaks_no_column_to_change breaks_command_misplaced breaks_address_misplaced breaks_row_outside breaks_lun_busy breaks_queue_clash breaks_input_misplaced breaks_no_sole_driver breaks_data_not_ready breaks_column_outside breaks_cache_read_misplaced breaks_cache_program_misplaced breaks_copyback_misplaced breaks_plane_not_held
judge_cache_end g t luns v closed declared one passes = at (is_wide g.optional) (ltb 1 g.luns) refl refl
  where
    at : (w several : Bool) → is_wide g.optional ≡ w → ltb 1 g.luns ≡ several → judge_cycle g t luns (CommandCycle ReadCacheEnd) ≡ None
    at true true e f = rw (e, f, closed, declared, one, passes) refl
    at true false e f = rw (e, f, closed, declared, one, passes) refl
    at false several e f = rw (e, closed, declared, one, passes) refl

judge_30 : (g : Parts) (t : TailFacts) (luns : List LunView) → wants_command t ReadConfirm ≡ true → (is_wide g.optional && named_lun_is g (row t) caching luns) ≡ false → judge_cycle g t luns (CommandCycle ReadConfirm) ≡ None
unfolding breaks_command_unknown breaks_sequence_open breaks_several_luns breaks_no_column_to_change breaks_command_misplaced breaks_address_misplaced breaks_row_outside breaks_lun_busy breaks_queue_clash breaks_input_misplaced breaks_no_sole_driver breaks_data_not_ready breaks_column_outside breaks_cache_read_misplaced breaks_cache_program_misplaced breaks_copyback_misplaced breaks_plane_not_held
judge_30 g t luns wants free = at (is_wide g.optional) (ltb 1 g.luns) refl refl
  where
    at : (w several : Bool) → is_wide g.optional ≡ w → ltb 1 g.luns ≡ several → judge_cycle g t luns (CommandCycle ReadConfirm) ≡ None
    at true true e f = let none : named_lun_is g (row t) caching luns ≡ false = ap (λ (b : Bool). b && named_lun_is g (row t) caching luns) (sym e) ∙ free in rw (e, f, wants, none) refl
    at true false e f = let none : named_lun_is g (row t) caching luns ≡ false = ap (λ (b : Bool). b && named_lun_is g (row t) caching luns) (sym e) ∙ free in rw (e, f, wants, none) refl
    at false several e f = rw (e, wants) refl

judge_32 : (g : Parts) (t : TailFacts) (luns : List LunView) → wants_command t ReadPlane ≡ true → named_lun_is g (row t) caching luns ≡ false → has_plane_reads g.optional ≡ true → judge_cycle g t luns (CommandCycle ReadPlane) ≡ None
unfolding breaks_command_unknown breaks_sequence_open breaks_several_luns breaks_no_column_to_change breaks_command_misplaced breaks_address_misplaced breaks_row_outside breaks_lun_busy breaks_queue_clash breaks_input_misplaced breaks_no_sole_driver breaks_data_not_ready breaks_column_outside breaks_cache_read_misplaced breaks_cache_program_misplaced breaks_copyback_misplaced breaks_plane_not_held
judge_32 g t luns wants free declared = at (is_wide g.optional) (ltb 1 g.luns) refl refl
  where
    reads : has_all g.optional 1024 ≡ true
    reads = (and_parts (is_wide g.optional) (has_all g.optional 1024) declared).1

    at : (w several : Bool) → is_wide g.optional ≡ w → ltb 1 g.luns ≡ several → judge_cycle g t luns (CommandCycle ReadPlane) ≡ None
    at true true e f = rw (e, f, wants, free, reads) refl
    at true false e f = rw (e, f, wants, free, reads) refl
    at false several e f = let wide : true ≡ false = sym (and_parts (is_wide g.optional) _ declared).0 ∙ e in cc

judge_15 : (g : Parts) (t : TailFacts) (luns : List LunView) → wants_command t ProgramCache ≡ true → has_program_cache g.optional ≡ true → (not (has_group_cache g.optional) && named_lun_is g (row t) (λ v. has_some v.queue) luns) ≡ false → (has_copyback g.optional && named_lun_is g (row t) (λ v. not (holds_none v.held)) luns) ≡ false → judge_cycle g t luns (CommandCycle ProgramCache) ≡ None
unfolding breaks_command_unknown breaks_sequence_open breaks_several_luns breaks_no_column_to_change breaks_command_misplaced breaks_address_misplaced breaks_row_outside breaks_lun_busy breaks_queue_clash breaks_input_misplaced breaks_no_sole_driver breaks_data_not_ready breaks_column_outside breaks_cache_read_misplaced breaks_cache_program_misplaced breaks_copyback_misplaced breaks_plane_not_held
judge_15 g t luns wants declared alone none = at (ltb 1 g.luns) refl
  where
    wide : is_wide g.optional ≡ true
    wide = (and_parts (is_wide g.optional) _ declared).0

    caches : has_all g.optional 1 ≡ true
    caches = (and_parts (is_wide g.optional) (has_all g.optional 1) declared).1

    alone_wide : (not (true && has_all g.optional 16384) && named_lun_is g (row t) (λ v. has_some v.queue) luns) ≡ false
    alone_wide = subst (λ (b : Bool). (not (b && has_all g.optional 16384) && named_lun_is g (row t) (λ v. has_some v.queue) luns) ≡ false) wide alone

    none_wide : ((true && has_all g.optional 16) && named_lun_is g (row t) (λ v. not (holds_none v.held)) luns) ≡ false
    none_wide = subst (λ (b : Bool). ((b && has_all g.optional 16) && named_lun_is g (row t) (λ v. not (holds_none v.held)) luns) ≡ false) wide none

    at : (several : Bool) → ltb 1 g.luns ≡ several → judge_cycle g t luns (CommandCycle ProgramCache) ≡ None
    at true f = rw (wide, f, wants, caches, alone_wide, none_wide) refl
    at false f = rw (wide, f, wants, caches, alone_wide, none_wide) refl

-- a chip with copybacks is one of the wider profile
copies_wide : (g : Parts) → has_copyback g.optional ≡ true → is_wide g.optional ≡ true
copies_wide g h = (and_parts (is_wide g.optional) _ h).0

copies_bit : (g : Parts) → has_copyback g.optional ≡ true → has_all g.optional 16 ≡ true
copies_bit g h = (and_parts (is_wide g.optional) (has_all g.optional 16) h).1

judge_35 : (g : Parts) (t : TailFacts) (luns : List LunView) → wants_command t CopybackRead ≡ true → named_lun_is g (row t) caching luns ≡ false → has_copyback g.optional ≡ true → judge_cycle g t luns (CommandCycle CopybackRead) ≡ None
unfolding breaks_command_unknown breaks_sequence_open breaks_several_luns breaks_no_column_to_change breaks_command_misplaced breaks_address_misplaced breaks_row_outside breaks_lun_busy breaks_queue_clash breaks_input_misplaced breaks_no_sole_driver breaks_data_not_ready breaks_column_outside breaks_cache_read_misplaced breaks_cache_program_misplaced breaks_copyback_misplaced breaks_plane_not_held
judge_35 g t luns wants free declared = at (is_wide g.optional) (ltb 1 g.luns) refl refl
  where
    copies : has_all g.optional 16 ≡ true
    copies = copies_bit g declared

    at : (w several : Bool) → is_wide g.optional ≡ w → ltb 1 g.luns ≡ several → judge_cycle g t luns (CommandCycle CopybackRead) ≡ None
    at true true e f = rw (e, f, wants, free, copies) refl
    at true false e f = rw (e, f, wants, free, copies) refl
    at false several e f = let wide : true ≡ false = sym (copies_wide g declared) ∙ e in cc

judge_d0 : (g : Parts) (t : TailFacts) (luns : List LunView) → wants_command t BlockEraseConfirm ≡ true → judge_cycle g t luns (CommandCycle BlockEraseConfirm) ≡ None
unfolding breaks_command_unknown breaks_sequence_open breaks_several_luns breaks_no_column_to_change breaks_command_misplaced breaks_address_misplaced breaks_row_outside breaks_lun_busy breaks_queue_clash breaks_input_misplaced breaks_no_sole_driver breaks_data_not_ready breaks_column_outside breaks_cache_read_misplaced breaks_cache_program_misplaced breaks_copyback_misplaced breaks_plane_not_held
judge_d0 g t luns wants = at (is_wide g.optional) (ltb 1 g.luns) refl refl
  where
    at : (w several : Bool) → is_wide g.optional ≡ w → ltb 1 g.luns ≡ several → judge_cycle g t luns (CommandCycle BlockEraseConfirm) ≡ None
    at true true e f = rw (e, f, wants) refl
    at true false e f = rw (e, f, wants) refl
    at false several e f = rw (e, wants) refl

judge_d1 : (g : Parts) (t : TailFacts) (luns : List LunView) → wants_command t BlockErasePlane ≡ true → g.multi_plane ≡ true → judge_cycle g t luns (CommandCycle BlockErasePlane) ≡ None
unfolding breaks_command_unknown breaks_sequence_open breaks_several_luns breaks_no_column_to_change breaks_command_misplaced breaks_address_misplaced breaks_row_outside breaks_lun_busy breaks_queue_clash breaks_input_misplaced breaks_no_sole_driver breaks_data_not_ready breaks_column_outside breaks_cache_read_misplaced breaks_cache_program_misplaced breaks_copyback_misplaced breaks_plane_not_held
judge_d1 g t luns wants declared = at (is_wide g.optional) (ltb 1 g.luns) refl refl
  where
    at : (w several : Bool) → is_wide g.optional ≡ w → ltb 1 g.luns ≡ several → judge_cycle g t luns (CommandCycle BlockErasePlane) ≡ None
    at true true e f = rw (e, f, wants, declared) refl
    at true false e f = rw (e, f, wants, declared) refl
    at false several e f = rw (e, wants, declared) refl

judge_10 : (g : Parts) (t : TailFacts) (luns : List LunView) → wants_command t ProgramConfirm ≡ true → judge_cycle g t luns (CommandCycle ProgramConfirm) ≡ None
unfolding breaks_command_unknown breaks_sequence_open breaks_several_luns breaks_no_column_to_change breaks_command_misplaced breaks_address_misplaced breaks_row_outside breaks_lun_busy breaks_queue_clash breaks_input_misplaced breaks_no_sole_driver breaks_data_not_ready breaks_column_outside breaks_cache_read_misplaced breaks_cache_program_misplaced breaks_copyback_misplaced breaks_plane_not_held
judge_10 g t luns wants = at (is_wide g.optional) (ltb 1 g.luns) refl refl
  where
    at : (w several : Bool) → is_wide g.optional ≡ w → ltb 1 g.luns ≡ several → judge_cycle g t luns (CommandCycle ProgramConfirm) ≡ None
    at true true e f = rw (e, f, wants) refl
    at true false e f = rw (e, f, wants) refl
    at false several e f = rw (e, wants) refl

judge_11 : (g : Parts) (t : TailFacts) (luns : List LunView) → wants_command t ProgramPlane ≡ true → g.multi_plane ≡ true → judge_cycle g t luns (CommandCycle ProgramPlane) ≡ None
unfolding breaks_command_unknown breaks_sequence_open breaks_several_luns breaks_no_column_to_change breaks_command_misplaced breaks_address_misplaced breaks_row_outside breaks_lun_busy breaks_queue_clash breaks_input_misplaced breaks_no_sole_driver breaks_data_not_ready breaks_column_outside breaks_cache_read_misplaced breaks_cache_program_misplaced breaks_copyback_misplaced breaks_plane_not_held
judge_11 g t luns wants declared = at (is_wide g.optional) (ltb 1 g.luns) refl refl
  where
    at : (w several : Bool) → is_wide g.optional ≡ w → ltb 1 g.luns ≡ several → judge_cycle g t luns (CommandCycle ProgramPlane) ≡ None
    at true true e f = rw (e, f, wants, declared) refl
    at true false e f = rw (e, f, wants, declared) refl
    at false several e f = rw (e, wants, declared) refl

judge_e0 : (g : Parts) (t : TailFacts) (luns : List LunView) → wants_command t ChangeReadColumnConfirm ≡ true → judge_cycle g t luns (CommandCycle ChangeReadColumnConfirm) ≡ None
unfolding breaks_command_unknown breaks_sequence_open breaks_several_luns breaks_no_column_to_change breaks_command_misplaced breaks_address_misplaced breaks_row_outside breaks_lun_busy breaks_queue_clash breaks_input_misplaced breaks_no_sole_driver breaks_data_not_ready breaks_column_outside breaks_cache_read_misplaced breaks_cache_program_misplaced breaks_copyback_misplaced breaks_plane_not_held
judge_e0 g t luns wants = at (is_wide g.optional) (ltb 1 g.luns) refl refl
  where
    at : (w several : Bool) → is_wide g.optional ≡ w → ltb 1 g.luns ≡ several → judge_cycle g t luns (CommandCycle ChangeReadColumnConfirm) ≡ None
    at true true e f = rw (e, f, wants) refl
    at true false e f = rw (e, f, wants) refl
    at false several e f = rw (e, wants) refl

-- 85 goes on with the data where it is, and a chip with copybacks is one of the wider profile
goes_on_open : (copies opens wants wide : Bool) → (copies ≡ true → wide ≡ true) → wants ≡ true → (copies && (opens && not ((false || wants) && wide))) ≡ false
goes_on_open true opens true true h w = and-false opens
goes_on_open true opens true false h w = let no = h refl in cc
goes_on_open true opens false wide h w = cc
goes_on_open false opens wants wide h w = refl

open_85 : (g : Parts) (t : TailFacts) → wants_command t ChangeWriteColumn ≡ true → breaks_sequence_open g t (CommandCycle ChangeWriteColumn) ≡ false
unfolding breaks_sequence_open
open_85 g t wants = goes_on_open (has_copyback g.optional) (is_open t) (wants_command t ChangeWriteColumn) (is_wide g.optional) (λ e. (and_parts (is_wide g.optional) _ e).0) wants

placed_85 : (g : Parts) (t : TailFacts) → wants_command t ChangeWriteColumn ≡ true → breaks_command_misplaced g t (CommandCycle ChangeWriteColumn) ≡ false
unfolding breaks_command_misplaced
placed_85 g t wants = ap (λ (b : Bool). not (has_copyback g.optional) && not b) wants ∙ and-false (not (has_copyback g.optional))

judge_85 : (g : Parts) (t : TailFacts) (luns : List LunView) → wants_command t ChangeWriteColumn ≡ true → judge_cycle g t luns (CommandCycle ChangeWriteColumn) ≡ None
unfolding breaks_command_unknown breaks_several_luns breaks_no_column_to_change breaks_address_misplaced breaks_row_outside breaks_lun_busy breaks_queue_clash breaks_input_misplaced breaks_no_sole_driver breaks_data_not_ready breaks_column_outside breaks_cache_read_misplaced breaks_cache_program_misplaced breaks_copyback_misplaced breaks_plane_not_held
judge_85 g t luns wants = at (is_wide g.optional) (ltb 1 g.luns) refl refl
  where
    open_is : breaks_sequence_open g t (CommandCycle ChangeWriteColumn) ≡ false
    open_is = open_85 g t wants

    placed : breaks_command_misplaced g t (CommandCycle ChangeWriteColumn) ≡ false
    placed = placed_85 g t wants

    at : (w several : Bool) → is_wide g.optional ≡ w → ltb 1 g.luns ≡ several → judge_cycle g t luns (CommandCycle ChangeWriteColumn) ≡ None
    at true true e f = rw (open_is, placed, e, f, wants) refl
    at true false e f = rw (open_is, placed, e, f, wants) refl
    at false several e f = rw (open_is, placed, e, wants) refl

-- 85 begins a copyback where nothing is open
judge_copy : (g : Parts) (t : TailFacts) (luns : List LunView) → is_open t ≡ false → list_any (λ v. not v.busy) luns ≡ true → has_copyback g.optional ≡ true → judge_cycle g t luns (CommandCycle ChangeWriteColumn) ≡ None
unfolding breaks_command_unknown breaks_sequence_open breaks_several_luns breaks_no_column_to_change breaks_command_misplaced breaks_address_misplaced breaks_row_outside breaks_lun_busy breaks_queue_clash breaks_input_misplaced breaks_no_sole_driver breaks_data_not_ready breaks_column_outside breaks_cache_read_misplaced breaks_cache_program_misplaced breaks_copyback_misplaced breaks_plane_not_held
judge_copy g t luns closed ready declared = at (is_wide g.optional) (ltb 1 g.luns) refl refl
  where
    copies : has_all g.optional 16 ≡ true
    copies = copies_bit g declared

    at : (w several : Bool) → is_wide g.optional ≡ w → ltb 1 g.luns ≡ several → judge_cycle g t luns (CommandCycle ChangeWriteColumn) ≡ None
    at true true e f = rw (e, f, closed, ready, copies) (rw (and-false (not (wants_command t ChangeWriteColumn))) refl)
    at true false e f = rw (e, f, closed, ready, copies) (rw (and-false (not (wants_command t ChangeWriteColumn))) refl)
    at false several e f = let wide : true ≡ false = sym (copies_wide g declared) ∙ e in cc

-- the only LUN of its target
some_of_one : (g : Parts) (past : List Item) (l : Lun) (test : LunView → Bool) → g.luns ≡ 1 → l.lun ≡ 0 → list_any test (luns_of g past l.ce) ≡ (test (lun_view g past l) || false)
some_of_one g past l test one zero_is =
    ap (λ (n : ℕ). list_any test (views_from g past l.ce n 0)) one ∙ ap (λ (n : ℕ). test (lun_view g past (record { ce = l.ce; lun = n })) || false) (sym zero_is)

or_false : (b : Bool) → b ≡ false → (b || false) ≡ false
or_false true h = cc
or_false false h = refl

pub one_lun : (s : Channel) (l : Lun) → is_there s l ≡ true → ltb 1 s.geometry.luns ≡ false → (s.geometry.luns ≡ 1) × (l.lun ≡ 0)
one_lun s l there one =
    let below = there_lun s l there in
    let most = ltb-false 1 s.geometry.luns one in
    (omega (arith, below, most), omega (arith, below, most))

pub command_judged : (s : Channel) (l : Lun) (past : List Item) (c : Scene) → is_there s l ≡ true → IsScene s l past c → (d : Command) → CommandAllowed s.geometry l.lun c d → judge_cycle s.geometry c.facts (luns_of s.geometry past l.ce) (CommandCycle d) ≡ None
command_judged s l past c there k d a = by d a
  where
    some_ready : c.view.busy ≡ false → list_any (λ v. not v.busy) (luns_of s.geometry past l.ce) ≡ true
    some_ready h = some_at s.geometry past l (λ v. not v.busy) (there_lun s l there) (ap (λ (v : LunView). not v.busy) k.view ∙ rw h refl)

    the_driver : c.sole ≡ true → driver (luns_of s.geometry past l.ce) ≡ Some c.view
    the_driver h = facts.sole_driver s.geometry past l (k.sole h) ∙ ap Some k.view

    none_of : (test : LunView → Bool) → ltb 1 s.geometry.luns ≡ false → test c.view ≡ false → list_any test (luns_of s.geometry past l.ce) ≡ false
    none_of test one h = let is = one_lun s l there one in some_of_one s.geometry past l test is.0 is.1 ∙ or_false (test (lun_view s.geometry past l)) (ap test k.view ∙ h)

    -- the LUN that the row of the tail names is this one
    named_as : (test : LunView → Bool) → names_lun s.geometry (row c.facts) l.lun ≡ true → named_lun_is s.geometry (row c.facts) test (luns_of s.geometry past l.ce) ≡ test c.view
    named_as test names = passes_at s.geometry past l _ test (there_lun s l there) (eqb-true _ _ names) ∙ ap test k.view

    by : (d : Command) → CommandAllowed s.geometry l.lun c d → judge_cycle s.geometry c.facts (luns_of s.geometry past l.ce) (CommandCycle d) ≡ None
    by Read a = judge_read s.geometry c.facts _ a.0 (some_ready a.1)
    by BlockErase a = judge_erase s.geometry c.facts _ a.0 (some_ready a.1)
    by PageProgram a = judge_program s.geometry c.facts _ a.0 (some_ready a.1)
    by ChangeReadColumn a = judge_read_column s.geometry c.facts _ c.view a.0.0 (some_ready a.0.1) (the_driver a.1) a.2
    by ReadStatus a = judge_status s.geometry c.facts _ a.0 a.1
    by ReadStatusEnhanced a = judge_enhanced s.geometry c.facts _ a.0 a.1 k.free
    by ReadId a = judge_id s.geometry c.facts _ a.closed a.one (some_ready a.ready) (none_of (λ v. has_some v.queue) a.one a.no_queue) (none_of caching a.one a.no_cache) (none_of programs a.one a.no_program)
    by ReadParameterPage a = judge_parameters s.geometry c.facts _ a.closed a.one (some_ready a.ready) (none_of (λ v. has_some v.queue) a.one a.no_queue) (none_of caching a.one a.no_cache) (none_of programs a.one a.no_program)
    by Reset a = judge_reset s.geometry c.facts _ a.closed a.one
    by ReadCacheSequential (inl a) = judge_cache s.geometry c.facts _ c.view a.closed a.declared (the_driver a.sole) a.passes
    by ReadCacheSequential (inr a) = judge_row_cache s.geometry c.facts _ a.wants a.wide a.declared (named_as has_read_one a.names ∙ a.read)
    by ReadCacheEnd a = judge_cache_end s.geometry c.facts _ c.view a.closed a.declared (the_driver a.sole) a.passes
    by ReadConfirm a = judge_30 s.geometry c.facts _ a.0.0 (ap (λ (b : Bool). is_wide s.geometry.optional && b) (named_as caching a.0.1) ∙ a.1)
    by BlockEraseConfirm a = judge_d0 s.geometry c.facts _ a.0
    by BlockErasePlane a = judge_d1 s.geometry c.facts _ a.0.0 a.1
    by ProgramConfirm a = judge_10 s.geometry c.facts _ a.0
    by ProgramPlane a = judge_11 s.geometry c.facts _ a.0.0 a.1
    by ProgramCache a = judge_15 s.geometry c.facts _ a.wants a.declared (ap (λ (b : Bool). not (has_group_cache s.geometry.optional) && b) (named_as (λ v. has_some v.queue) a.names) ∙ a.no_group) (ap (λ (b : Bool). has_copyback s.geometry.optional && b) (named_as (λ v. not (holds_none v.held)) a.names) ∙ a.no_copy)
    by ChangeReadColumnConfirm (inl a) = judge_e0 s.geometry c.facts _ a.wants
    by ChangeReadColumnConfirm (inr a) = judge_e0 s.geometry c.facts _ a.wants
    by ChangeWriteColumn (inl a) = judge_85 s.geometry c.facts _ a
    by ChangeWriteColumn (inr a) = judge_copy s.geometry c.facts _ a.0.0 (some_ready a.0.1) a.1
    by ReadUniqueId a = judge_unique_id s.geometry c.facts _ a.0.closed a.0.one (some_ready a.0.ready) (none_of (λ v. has_some v.queue) a.0.one a.0.no_queue) (none_of caching a.0.one a.0.no_cache) (none_of programs a.0.one a.0.no_program) a.1
    by GetFeatures a = judge_features s.geometry c.facts _ a.0.closed a.0.one (some_ready a.0.ready) (none_of (λ v. has_some v.queue) a.0.one a.0.no_queue) (none_of caching a.0.one a.0.no_cache) (none_of programs a.0.one a.0.no_program) a.1
    by SetFeatures a = judge_set_features s.geometry c.facts _ a.0.closed a.0.one (some_ready a.0.ready) (none_of (λ v. has_some v.queue) a.0.one a.0.no_queue) (none_of caching a.0.one a.0.no_cache) (none_of programs a.0.one a.0.no_program) a.1
    by ResetLun a = judge_lun_reset s.geometry c.facts _ a.0 a.1
    by SynchronousReset a = judge_synchronous s.geometry c.facts _ a.0.closed a.0.one a.1
    by Unknown a = absurd a
    by ChangeReadColumnEnhanced a = judge_06 s.geometry c.facts _ a.0.0 (some_ready a.0.1) a.1
    by ReadPlane a = judge_32 s.geometry c.facts _ a.0.0 (named_as caching a.0.1 ∙ a.1) a.2
    by CopybackRead a = judge_35 s.geometry c.facts _ a.0.0 (named_as caching a.0.1 ∙ a.1) a.2

from_command : (g : Parts) (t u : TailFacts) (luns : List LunView) (c d : Command) → t ≡ u → c ≡ d → judge_cycle g u luns (CommandCycle d) ≡ None → judge_cycle g t luns (CommandCycle c) ≡ None
from_command g t u luns c d e f h =
    subst (λ (x : TailFacts). judge_cycle g x luns (CommandCycle c) ≡ None) (sym e) (subst (λ (x : Command). judge_cycle g u luns (CommandCycle x) ≡ None) (sym f) h)

-- 2. addresses
-- what is no last row cycle ends no row of any opener
pub ends_none : (among : Command → Bool) (o : Option Opening) → opened (λ c n. true && at_last_row c n) o ≡ false → opened (λ c n. among c && at_last_row c n) o ≡ false
ends_none among None h = refl
ends_none among (Some o) h = and_right (among o.opener) (at_last_row o.opener o.addresses) h

refused_none : (g : Parts) (p : PageAddress) (q : List Queued) (o : Option Opening) → opened (λ c n. true && at_last_row c n) o ≡ false → is_refused_by g o p q ≡ false
refused_none g p q None h = refl
refused_none g p q (Some o) h = rw h refl

no_lun : (test : LunView → Bool) (o : Option LunView) → ((v : LunView) → test v ≡ false) → is_some_and test o ≡ false
no_lun test None h = refl
no_lun test (Some v) h = h v

judge_address : (g : Parts) (t : TailFacts) (luns : List LunView) (b : ℕ) → breaks_address_misplaced g t (AddressCycle b) ≡ false → breaks_row_outside g t (AddressCycle b) ≡ false → breaks_lun_busy g t luns (AddressCycle b) ≡ false → breaks_queue_clash g t luns (AddressCycle b) ≡ false → breaks_column_outside g t luns (AddressCycle b) ≡ false → breaks_cache_read_misplaced g t luns (AddressCycle b) ≡ false → breaks_cache_program_misplaced g t luns (AddressCycle b) ≡ false → breaks_copyback_misplaced g t luns (AddressCycle b) ≡ false → breaks_plane_not_held g t luns (AddressCycle b) ≡ false → judge_cycle g t luns (AddressCycle b) ≡ None
unfolding breaks_command_unknown breaks_sequence_open breaks_several_luns breaks_no_column_to_change breaks_command_misplaced breaks_input_misplaced breaks_no_sole_driver breaks_data_not_ready
judge_address g t luns b f7 f8 f9 f10 f14 f15 f16 f17 f18 = rw (f7, f8, f9, f10, f14, f15, f16, f17, f18) refl

-- both fail, or the first fails
both_no : (a b : Bool) → (a ≡ true → b ≡ false) → (a && b) ≡ false
both_no true b h = h refl
both_no false b h = refl

is_not : (b : Bool) → b ≡ true → not b ≡ false
is_not true h = refl
is_not false h = cc

-- a chip with copybacks copies no page here, and is in no group of them
no_misplaced : (copies a b x y : Bool) → (a ≡ true → x ≡ false) → (b ≡ true → (copies && y) ≡ false) → (copies && ((a && x) || (b && y))) ≡ false
no_misplaced false a b x y h k = refl
no_misplaced true true true x y h k = or_from x y (h refl) (k refl)
no_misplaced true true false x y h k = or_from x false (h refl) refl
no_misplaced true false true x y h k = k refl
no_misplaced true false false x y h k = refl

-- an address that a scene allows
pub address_judged : (s : Channel) (l : Lun) (past : List Item) (c : Scene) (byte : ℕ) → is_there s l ≡ true → IsScene s l past c → AddressAllowed s.geometry l.lun c byte → judge_cycle s.geometry c.facts (luns_of s.geometry past l.ce) (AddressCycle byte) ≡ None
unfolding breaks_address_misplaced breaks_row_outside breaks_lun_busy breaks_queue_clash breaks_column_outside breaks_cache_read_misplaced breaks_cache_program_misplaced breaks_copyback_misplaced breaks_plane_not_held
address_judged s l past c byte there k a = at (ends_row (λ d. true) c.facts) refl
  where
    g : Parts
    g = s.geometry

    luns : List LunView
    luns = luns_of s.geometry past l.ce

    here : l.lun < s.geometry.luns
    here = there_lun s l there

    f7 : breaks_address_misplaced g c.facts (AddressCycle byte) ≡ false
    f7 = or_from (not (wants_address c.facts byte)) _ (is_not (wants_address c.facts byte) a.wanted) a.profile

    f14 : breaks_column_outside g c.facts luns (AddressCycle byte) ≡ false
    f14 =
        or_from (second_of_page c.facts && nat_le (page_len g) (column_with c.facts byte)) _ (both_no (second_of_page c.facts) _ a.column)
        (both_no (second_column is_change_read_column c.facts) _ (λ e. let r = a.read_column e in let one : driver luns ≡ Some c.view = facts.sole_driver g past l (k.sole r.0) ∙ ap Some k.view in ap (is_some_and (λ v. nat_le (register_len g v.register) (column_with c.facts byte))) one ∙ r.1))

    -- the LUN that a row names passes as this one does
    named : (n : ℕ) (test : LunView → Bool) → (parts_of g n).lun ≡ l.lun → test c.view ≡ false → named_lun_is g n test luns ≡ false
    named n test e h = passes_at g past l _ test here e ∙ (ap test k.view ∙ h)

    named_as : (test : LunView → Bool) → (parts_of g (row_with c.facts byte)).lun ≡ l.lun → named_lun_is g (row_with c.facts byte) test luns ≡ test c.view
    named_as test e = passes_at g past l _ test here e ∙ ap test k.view

    clash : {x y : Bool} → x ≡ true → x ≡ false → y ≡ false
    clash h k = cc

    at : (b : Bool) → ends_row (λ d. true) c.facts ≡ b → judge_cycle g c.facts luns (AddressCycle byte) ≡ None
    at true e =
        let r = a.row e in
        let is : (parts_of g (row_with c.facts byte)).lun ≡ l.lun = eqb-true _ _ r.names in
        judge_address g c.facts luns byte f7
        (both_no (ends_row (λ d. true) c.facts) _ (λ x. is_not _ r.inside))
        (both_no (ends_row addresses_the_array c.facts) _ (λ x. or_from _ _ (named (row_with c.facts byte) (λ v. v.busy) is (r.ready x)) k.free))
        (named (row_with c.facts byte) (λ v. is_refused_by g c.facts.opening (page_address g (row_with c.facts byte)) v.queue) is r.goes)
        f14
        (both_no (ends_row (excludes_cache g) c.facts) _ (λ x. named (row_with c.facts byte) caching is (r.no_cache x)))
        (both_no (ends_row excludes_program c.facts) _ (λ x. named (row_with c.facts byte) programs is (r.no_program x)))
        (no_misplaced (has_copyback g.optional) (ends_row is_write_column c.facts) (ends_row is_page_program c.facts) _ _
        (λ x. named (row_with c.facts byte) (λ v. not (may_copy g (page_address g (row_with c.facts byte)) v)) is (is_not _ (r.copy x)))
        (λ x. ap (λ (b : Bool). has_copyback g.optional && b) (named_as is_copying is) ∙ r.no_group x))
        (both_no (ends_row is_enhanced_column c.facts) _ (λ x. named (row_with c.facts byte) (λ v. not (holds_plane_of g (page_address g (row_with c.facts byte)) v)) is (is_not _ (r.plane x))))
    at false e =
        let none = ends_none addresses_the_array c.facts.opening e in
        judge_address g c.facts luns byte f7
        (both_no (ends_row (λ d. true) c.facts) _ (λ x. clash x e))
        (both_no (ends_row addresses_the_array c.facts) _ (λ x. clash x none))
        (no_lun (λ v. is_refused_by g c.facts.opening (page_address g (row_with c.facts byte)) v.queue) _ (λ v. refused_none g (page_address g (row_with c.facts byte)) v.queue c.facts.opening e))
        f14
        (both_no (ends_row (excludes_cache g) c.facts) _ (λ x. clash x (ends_none (excludes_cache g) c.facts.opening e)))
        (both_no (ends_row excludes_program c.facts) _ (λ x. clash x (ends_none excludes_program c.facts.opening e)))
        (no_misplaced (has_copyback g.optional) (ends_row is_write_column c.facts) (ends_row is_page_program c.facts) _ _
        (λ x. clash x (ends_none is_write_column c.facts.opening e))
        (λ x. let y : false ≡ true = sym (ends_none is_page_program c.facts.opening e) ∙ x in cc))
        (both_no (ends_row is_enhanced_column c.facts) _ (λ x. clash x (ends_none is_enhanced_column c.facts.opening e)))

-- 3. inputs and outputs

pub input_judged : (g : Parts) (t : TailFacts) (luns : List LunView) (b : ℕ) → takes_inputs t.phase ≡ true → (not (takes_features t.phase) && nat_le (page_len g) (input_column t)) ≡ false → judge_cycle g t luns (InputCycle b) ≡ None
unfolding breaks_command_unknown breaks_sequence_open breaks_several_luns breaks_no_column_to_change breaks_command_misplaced breaks_address_misplaced breaks_row_outside breaks_lun_busy breaks_queue_clash breaks_input_misplaced breaks_no_sole_driver breaks_data_not_ready breaks_column_outside breaks_cache_read_misplaced breaks_cache_program_misplaced breaks_copyback_misplaced breaks_plane_not_held
input_judged g t luns b takes inside = rw (takes, inside) refl

pub output_judged : (g : Parts) (t : TailFacts) (luns : List LunView) (v : LunView) → is_open t ≡ false → driver luns ≡ Some v → has_no_byte v ≡ false → is_past_register g v ≡ false → judge_cycle g t luns OutputCycle ≡ None
unfolding breaks_command_unknown breaks_sequence_open breaks_several_luns breaks_no_column_to_change breaks_command_misplaced breaks_address_misplaced breaks_row_outside breaks_lun_busy breaks_queue_clash breaks_input_misplaced breaks_no_sole_driver breaks_data_not_ready breaks_column_outside breaks_cache_read_misplaced breaks_cache_program_misplaced breaks_copyback_misplaced breaks_plane_not_held
output_judged g t luns v closed one byte inside = rw (closed, one, byte, inside) refl
