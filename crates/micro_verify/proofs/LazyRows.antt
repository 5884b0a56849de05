-- Straight texts that are refused, with their lazy runs, computed by the definitions.
use Rattle.std.proofs.Common.{◌≡◌, refl, [], ◌∷◌, Some}
use Rattle.onfi_cycle.specs.declared.item.Kind.TheVariants.{Cmd, Adr, Dout}
use Rattle.micro_walk.specs.Faults.{fault_of}
use Rattle.onfi_cycle.specs.declared.forbidden.Forbidden.TheVariants.{LunBusy, DataNotReady}
use Rattle.onfi_cycle.specs.Channel.{cycle}
use Rattle.onfi_cycle.specs.Command.{command}
use Rattle.onfi_cycle.specs.Lun.{effect_among}
use Rattle.onfi_cycle.specs.Rules.{breaks_not_there, breaks_command_unknown, breaks_sequence_open, breaks_several_luns, breaks_no_column_to_change, breaks_command_misplaced, breaks_address_misplaced, breaks_row_outside, breaks_lun_busy, breaks_queue_clash, breaks_input_misplaced, breaks_no_sole_driver, breaks_data_not_ready, breaks_column_outside, breaks_cache_read_misplaced, breaks_cache_program_misplaced, breaks_copyback_misplaced, breaks_plane_not_held}
use Rattle.nand_geometry.specs.Limits.{width}
use Rattle.micro_word.specs.declared.word.Word.TheVariants.{Command, Address}
use Rattle.micro_claims.specs.declared.refusal.Reason.TheVariants.{CycleForbidden, ColumnTooLarge}
use Rattle.micro_program.specs.Moves.{Give}
use Rattle.micro_claims.specs.Accepts.{state_after}
use Rattle.micro_claims.specs.Reasons.{reason_against, breaks_cycle_forbidden, breaks_address_unaligned, breaks_handover_in_sequence, breaks_buffer_passed, breaks_row_or_plane_outside, breaks_column_too_large, breaks_no_status, breaks_ends_too_soon, breaks_over_budget, breaks_command_not_allowed}
use Rattle.micro_verify.specs.Cause.{HasCause}
use Rattle.micro_verify.specs.CauseRows.{alone, twice, lost, five, IsRefused, counter_of, rule_at, two_planes, queued, queued_items, wide, counter_on, RefusalsAreShown}

twice_refused : IsRefused twice (record { word = 3; reason = CycleForbidden })
unfolding command state_after reason_against breaks_cycle_forbidden breaks_address_unaligned breaks_handover_in_sequence breaks_buffer_passed breaks_row_or_plane_outside breaks_column_too_large breaks_no_status breaks_ends_too_soon breaks_over_budget breaks_command_not_allowed
twice_refused = refl

twice_counter : counter_of twice 3 (Command 0x60) ≡ Some (record { items = five; cycle = cycle 0 Cmd 0x60 })
unfolding command effect_among width breaks_not_there breaks_command_unknown breaks_sequence_open breaks_several_luns breaks_no_column_to_change breaks_command_misplaced breaks_address_misplaced breaks_row_outside breaks_lun_busy breaks_queue_clash breaks_input_misplaced breaks_no_sole_driver breaks_data_not_ready breaks_column_outside breaks_cache_read_misplaced breaks_cache_program_misplaced breaks_copyback_misplaced breaks_plane_not_held
twice_counter = refl

twice_breaks : rule_at twice 3 (cycle 0 Cmd 0x60) ≡ Some LunBusy
unfolding command effect_among width breaks_not_there breaks_command_unknown breaks_sequence_open breaks_several_luns breaks_no_column_to_change breaks_command_misplaced breaks_address_misplaced breaks_row_outside breaks_lun_busy breaks_queue_clash breaks_input_misplaced breaks_no_sole_driver breaks_data_not_ready breaks_column_outside breaks_cache_read_misplaced breaks_cache_program_misplaced breaks_copyback_misplaced breaks_plane_not_held
twice_breaks = refl

twice_cause : HasCause alone twice (record { word = 3; reason = CycleForbidden })
unfolding command effect_among width breaks_not_there breaks_command_unknown breaks_sequence_open breaks_several_luns breaks_no_column_to_change breaks_command_misplaced breaks_address_misplaced breaks_row_outside breaks_lun_busy breaks_queue_clash breaks_input_misplaced breaks_no_sole_driver breaks_data_not_ready breaks_column_outside breaks_cache_read_misplaced breaks_cache_program_misplaced breaks_copyback_misplaced breaks_plane_not_held
twice_cause =
    record {
      word = Command 0x60;
      there = refl;
      before = refl;
      run = _;
      is_run = refl;
      legal = refl;
      cause = λ e. record { moved = _; is_moved = refl; stops = record { first = []; next = Give Cmd 0x60; rest = []; parts = refl; p = _; plays = refl; legal = refl; rule = LunBusy; breaks = refl; sorted = refl } };
    }

lost_refused : IsRefused lost (record { word = 8; reason = CycleForbidden })
unfolding command state_after reason_against breaks_cycle_forbidden breaks_address_unaligned breaks_handover_in_sequence breaks_buffer_passed breaks_row_or_plane_outside breaks_column_too_large breaks_no_status breaks_ends_too_soon breaks_over_budget breaks_command_not_allowed
lost_refused = refl

lost_breaks : rule_at lost 8 (cycle 0 Dout 0x00) ≡ Some DataNotReady
unfolding command effect_among width breaks_not_there breaks_command_unknown breaks_sequence_open breaks_several_luns breaks_no_column_to_change breaks_command_misplaced breaks_address_misplaced breaks_row_outside breaks_lun_busy breaks_queue_clash breaks_input_misplaced breaks_no_sole_driver breaks_data_not_ready breaks_column_outside breaks_cache_read_misplaced breaks_cache_program_misplaced breaks_copyback_misplaced breaks_plane_not_held
lost_breaks = refl

queued_refused : fault_of two_planes queued ≡ Some (record { word = 5; reason = CycleForbidden })
unfolding command state_after reason_against breaks_cycle_forbidden breaks_address_unaligned breaks_handover_in_sequence breaks_buffer_passed breaks_row_or_plane_outside breaks_column_too_large breaks_no_status breaks_ends_too_soon breaks_over_budget breaks_command_not_allowed
queued_refused = refl

queued_counter : counter_on two_planes queued 5 (Address 2 3) ≡ Some (record { items = queued_items; cycle = cycle 0 Adr 0x00 })
unfolding command effect_among width breaks_not_there breaks_command_unknown breaks_sequence_open breaks_several_luns breaks_no_column_to_change breaks_command_misplaced breaks_address_misplaced breaks_row_outside breaks_lun_busy breaks_queue_clash breaks_input_misplaced breaks_no_sole_driver breaks_data_not_ready breaks_column_outside breaks_cache_read_misplaced breaks_cache_program_misplaced breaks_copyback_misplaced breaks_plane_not_held
queued_counter = refl

wide_refused : IsRefused wide (record { word = 2; reason = ColumnTooLarge })
unfolding command state_after reason_against breaks_cycle_forbidden breaks_address_unaligned breaks_handover_in_sequence breaks_buffer_passed breaks_row_or_plane_outside breaks_column_too_large breaks_no_status breaks_ends_too_soon breaks_over_budget breaks_command_not_allowed
wide_refused = refl

wide_counter : counter_of wide 2 (Address 0 5) ≡ Some (record { items = cycle 0 Cmd 0x00 ∷ (cycle 0 Adr 0x10 ∷ []); cycle = cycle 0 Adr 0x02 })
unfolding command effect_among width breaks_not_there breaks_command_unknown breaks_sequence_open breaks_several_luns breaks_no_column_to_change breaks_command_misplaced breaks_address_misplaced breaks_row_outside breaks_lun_busy breaks_queue_clash breaks_input_misplaced breaks_no_sole_driver breaks_data_not_ready breaks_column_outside breaks_cache_read_misplaced breaks_cache_program_misplaced breaks_copyback_misplaced breaks_plane_not_held
wide_counter = refl

pub refusals_are_shown : RefusalsAreShown
refusals_are_shown = record { twice_refused = twice_refused; twice_counter = twice_counter; twice_breaks = twice_breaks; twice_cause = twice_cause; lost_refused = lost_refused; lost_breaks = lost_breaks; queued_refused = queued_refused; queued_counter = queued_counter; wide_refused = wide_refused; wide_counter = wide_counter }
