-- The reasons against a word, by what is known before it: what each forbids, and the lowest.
use Rattle.std.specs.Prelude.{ℕ, Bool, false, ◌&&◌, ◌||◌, not, nat_lt, if◌then◌else◌, Option, Some, None}
use Rattle.nand_geometry.specs.declared.parts.Parts.{Parts}
use Rattle.onfi_cycle.specs.Command.{command}
use Rattle.micro_word.specs.declared.word.Word.{Word}
use Rattle.micro_word.specs.declared.word.Word.TheVariants.{End, Command, Address, Get, Put, Column, RowAdd, Row, Plane, Wait, Yield, ReadStatus, BranchOnStatus}
use Rattle.micro_claims.specs.declared.refusal.Reason.{Reason}
use Rattle.micro_claims.specs.declared.refusal.Reason.TheVariants.{CycleForbidden, AddressUnaligned, HandoverInSequence, BufferPassed, RowOrPlaneOutside, ColumnTooLarge, NoStatus, EndsTooSoon, OverBudget, CommandNotAllowed}
use Rattle.micro_program.specs.Program.{cost}
use Rattle.micro_claims.specs.Spans.{bound_plus, is_at_most}
use Rattle.micro_claims.specs.State.{State, Bounds}
use Rattle.micro_claims.specs.Against.{takes_inputs_at, is_inside_address, may_be_open, command_out_of_place, command_past_rows, command_not_for_programs, continues_unseen, address_out_of_place, begins_elsewhere, column_past, row_outside, output_refused, output_past, input_past, may_be_unready}

-- V7: a cycle may come where it isn't permitted
unfoldable pub breaks_cycle_forbidden : Parts → State → Word → Bool
breaks_cycle_forbidden g s (Command byte) = command_out_of_place g s (command byte)
breaks_cycle_forbidden g s (Address from count) = address_out_of_place g s from count s.target.tail
breaks_cycle_forbidden g s (Get len) = output_refused s
breaks_cycle_forbidden g s (Put len) = not (takes_inputs_at len s.target.tail)
breaks_cycle_forbidden g s ReadStatus = may_be_open s
breaks_cycle_forbidden g s _ = false

-- V8: an address begins elsewhere than wanted, or a register changes inside an address
unfoldable pub breaks_address_unaligned : State → Word → Bool
breaks_address_unaligned s (Address from count) = begins_elsewhere from s.target.tail
breaks_address_unaligned s (Column n) = is_inside_address s.target.tail
breaks_address_unaligned s (RowAdd n) = is_inside_address s.target.tail
breaks_address_unaligned s (Row n) = is_inside_address s.target.tail
breaks_address_unaligned s (Plane n) = is_inside_address s.target.tail
breaks_address_unaligned s _ = false

-- V9: the bus is let go while a sequence may be open
unfoldable pub breaks_handover_in_sequence : State → Word → Bool
breaks_handover_in_sequence s Wait = may_be_open s
breaks_handover_in_sequence s Yield = may_be_open s
breaks_handover_in_sequence s _ = false

-- V10: past the buffer
unfoldable pub breaks_buffer_passed : ℕ → State → Word → Bool
breaks_buffer_passed buffer s (Get len) = not (is_at_most (bound_plus s.registers.place.hi len) buffer)
breaks_buffer_passed buffer s (Put len) = not (is_at_most (bound_plus s.registers.place.hi len) buffer)
breaks_buffer_passed buffer s _ = false

-- V11: a row or a plane outside
unfoldable pub breaks_row_or_plane_outside : Parts → ℕ → State → Word → Bool
breaks_row_or_plane_outside g rows s (Command byte) = command_past_rows g rows s (command byte)
breaks_row_or_plane_outside g rows s (Address from count) = row_outside g rows s from count
breaks_row_or_plane_outside g rows s (Plane n) = nat_lt 3 n
breaks_row_or_plane_outside g rows s _ = false

-- V12: a column past the page or the register
unfoldable pub breaks_column_too_large : Parts → State → Word → Bool
breaks_column_too_large g s (Address from count) = column_past g s from count s.target.tail
breaks_column_too_large g s (Get len) = output_past g s len
breaks_column_too_large g s (Put len) = input_past g s len
breaks_column_too_large g s _ = false

-- V13: no status was asked for
unfoldable pub breaks_no_status : State → Word → Bool
breaks_no_status s (BranchOnStatus mask target) = not s.registers.polled
breaks_no_status s _ = false

-- V14: an end at a wrong time
unfoldable pub breaks_ends_too_soon : State → Word → Bool
breaks_ends_too_soon s (End code) = may_be_unready s
breaks_ends_too_soon s _ = false

-- V15: a word that costs something passes the budget
unfoldable pub breaks_over_budget : Parts → ℕ → State → Word → Bool
breaks_over_budget g budget s word = nat_lt 0 (cost g word) && not (is_at_most (bound_plus s.registers.cost.hi (cost g word)) budget)

-- V16: a command that programs may not use
unfoldable pub breaks_command_not_allowed : Parts → Bounds → Word → Bool
breaks_command_not_allowed g b (Command byte) = command_not_for_programs g (command byte) || continues_unseen b (command byte)
breaks_command_not_allowed g b _ = false

-- the lowest reason against a word
unfoldable pub reason_against : Parts → Bounds → State → Word → Option Reason
reason_against g b s word =
    if breaks_cycle_forbidden g s word then Some CycleForbidden
    else (if breaks_address_unaligned s word then Some AddressUnaligned
    else (if breaks_handover_in_sequence s word then Some HandoverInSequence
    else (if breaks_buffer_passed b.buffer s word then Some BufferPassed
    else (if breaks_row_or_plane_outside g b.rows s word then Some RowOrPlaneOutside
    else (if breaks_column_too_large g s word then Some ColumnTooLarge
    else (if breaks_no_status s word then Some NoStatus
    else (if breaks_ends_too_soon s word then Some EndsTooSoon
    else (if breaks_over_budget g b.budget s word then Some OverBudget
    else (if breaks_command_not_allowed g b word then Some CommandNotAllowed
    else None)))))))))
