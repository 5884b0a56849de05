-- Worked traces, computed by the definitions. Traces are written in the order of time.
use Rattle.std.specs.Prelude.{◌≡◌, ℕ, Bool, true, false, ◌&&◌, if◌then◌else◌, List, [], ◌∷◌, reverse, refl, Option, Some, None, is_none, replicate}
use Rattle.nand_geometry.specs.declared.parts.Parts.{Parts}
use Rattle.nand_geometry.specs.Optional.{no_optional}
use Rattle.nand_geometry.specs.Limits.{width}
use Rattle.onfi_cycle.specs.declared.item.Kind.TheVariants.{Cmd, Adr, Din, Dout}
use Rattle.onfi_cycle.specs.declared.lun.Lun.{Lun}
use Rattle.onfi_cycle.specs.declared.page_address.PageAddress.{PageAddress}
use Rattle.onfi_cycle.specs.declared.item.Failures.{Failures}
use Rattle.onfi_cycle.specs.declared.item.Item.{Item}
use Rattle.onfi_cycle.specs.declared.item.Item.TheVariants.{Cyc, Rdy, Ard}
use Rattle.onfi_cycle.specs.declared.forbidden.Forbidden.{Forbidden}
use Rattle.onfi_cycle.specs.declared.forbidden.Forbidden.TheVariants.{NotThere, CommandUnknown, SequenceOpen, SeveralLuns, NoColumnToChange, CommandMisplaced, AddressMisplaced, RowOutside, LunBusy, QueueClash, InputMisplaced, NoSoleDriver, DataNotReady, ColumnOutside, CacheReadMisplaced, PlaneNotHeld}
use Rattle.onfi_cycle.specs.Command.{command}
use Rattle.onfi_cycle.specs.Sequence.{target_cycle, tail, facts_of}
use Rattle.onfi_cycle.specs.Lun.{luns_of, effect_among}
use Rattle.onfi_cycle.specs.Content.{content, status}
use Rattle.onfi_cycle.specs.Rules.{breaks_not_there, breaks_command_unknown, breaks_sequence_open, breaks_several_luns, breaks_no_column_to_change, breaks_command_misplaced, breaks_address_misplaced, breaks_row_outside, breaks_lun_busy, breaks_queue_clash, breaks_input_misplaced, breaks_no_sole_driver, breaks_data_not_ready, breaks_column_outside, breaks_cache_read_misplaced, breaks_cache_program_misplaced, breaks_copyback_misplaced, breaks_plane_not_held}
use Rattle.onfi_cycle.specs.Permitted.{broken, is_legal, judge_known_cycle}

-- 512 + 16 bytes, 4 pages, 8 blocks, one LUN, no planes
abbrev one_lun : Parts
one_lun = record { page_bytes = 512; spare_bytes = 16; pages = 4; blocks = 8; luns = 1; plane_bits = 0; enhanced = false; multi_plane = false; cache = false; optional = no_optional }

-- the same with two LUNs, two planes and Read Status Enhanced
abbrev two_luns : Parts
two_luns = record { page_bytes = 512; spare_bytes = 16; pages = 4; blocks = 8; luns = 2; plane_bits = 1; enhanced = true; multi_plane = true; cache = false; optional = no_optional }

-- one LUN with read cache
abbrev with_cache : Parts
with_cache = record { page_bytes = 512; spare_bytes = 16; pages = 4; blocks = 8; luns = 1; plane_bits = 0; enhanced = false; multi_plane = false; cache = true; optional = no_optional }

-- the same, read as one of the wider profile
abbrev wide_cache : Parts
wide_cache = record { page_bytes = 512; spare_bytes = 16; pages = 4; blocks = 8; luns = 1; plane_bits = 0; enhanced = false; multi_plane = false; cache = true; optional = record { 0 = 32770 } }

-- two LUNs of two planes with Change Read Column Enhanced, of the wider profile
abbrev wide_luns : Parts
wide_luns = record { page_bytes = 512; spare_bytes = 16; pages = 4; blocks = 8; luns = 2; plane_bits = 1; enhanced = true; multi_plane = true; cache = false; optional = record { 0 = 32832 } }

abbrev c : ℕ → Item
c byte = Cyc (record { ce = 0; kind = Cmd; byte = byte })

abbrev a : ℕ → Item
a byte = Cyc (record { ce = 0; kind = Adr; byte = byte })

abbrev i : ℕ → Item
i byte = Cyc (record { ce = 0; kind = Din; byte = byte })

abbrev o : ℕ → Item
o byte = Cyc (record { ce = 0; kind = Dout; byte = byte })

abbrev none : Failures
none = record { last = false; before = false }

abbrev failure : Failures
failure = record { last = true; before = false }

abbrev r : ℕ → Item
r lun = Rdy 0 lun none

-- what the rules say that don't ask whether the bus takes the command today: F1 of readies, F3 to F15 of cycles
abbrev judged : Parts → List Item → Item → Option Forbidden
judged g past (Cyc x) = judge_known_cycle g (facts_of (tail past x.ce)) (luns_of g past x.ce) (target_cycle x.kind x.byte)
judged g past item = broken g 1 past item

-- each item passes, and then the last one is judged so; the items of the past stand newest first
abbrev passes : Parts → List Item → Bool
passes g [] = true
passes g (x ∷ past) = is_none (judged g past x) && passes g past

abbrev then_breaks : Parts → List Item → Item → Option Forbidden
then_breaks g items x = if passes g (reverse items) then judged g (reverse items) x else None

-- 1. rows of the commands that the bus takes today

erase_one_block : is_legal one_lun 1 (reverse (c 0x60 ∷ (a 4 ∷ (a 0 ∷ (a 0 ∷ (c 0xd0 ∷ (c 0x70 ∷ (o 0x80 ∷ (r 0 ∷ (c 0x70 ∷ (o 0xe0 ∷ []))))))))))) ≡ true
unfolding command width effect_among breaks_not_there breaks_command_unknown breaks_sequence_open breaks_several_luns breaks_no_column_to_change breaks_command_misplaced breaks_address_misplaced breaks_row_outside breaks_lun_busy breaks_queue_clash breaks_input_misplaced breaks_no_sole_driver breaks_data_not_ready breaks_column_outside breaks_cache_read_misplaced breaks_cache_program_misplaced breaks_copyback_misplaced breaks_plane_not_held
erase_one_block = refl

erase_on_lun_one : is_legal two_luns 1 (reverse (c 0x60 ∷ (a 0x20 ∷ (a 0x0 ∷ (a 0x0 ∷ (c 0xd0 ∷ (c 0x78 ∷ (a 0x20 ∷ (a 0x0 ∷ (a 0x0 ∷ (o 0x80 ∷ (r 1 ∷ (c 0x78 ∷ (a 0x20 ∷ (a 0x0 ∷ (a 0x0 ∷ (o 0xe0 ∷ []))))))))))))))))) ≡ true
unfolding command width effect_among breaks_not_there breaks_command_unknown breaks_sequence_open breaks_several_luns breaks_no_column_to_change breaks_command_misplaced breaks_address_misplaced breaks_row_outside breaks_lun_busy breaks_queue_clash breaks_input_misplaced breaks_no_sole_driver breaks_data_not_ready breaks_column_outside breaks_cache_read_misplaced breaks_cache_program_misplaced breaks_copyback_misplaced breaks_plane_not_held
erase_on_lun_one = refl

two_luns_in_turn : is_legal two_luns 1 (reverse (c 0x60 ∷ (a 0x0 ∷ (a 0x0 ∷ (a 0x0 ∷ (c 0xd0 ∷ (c 0x78 ∷ (a 0x0 ∷ (a 0x0 ∷ (a 0x0 ∷ (o 0x80 ∷ (c 0x60 ∷ (a 0x20 ∷ (a 0x0 ∷ (a 0x0 ∷ (c 0xd0 ∷ (c 0x78 ∷ (a 0x20 ∷ (a 0x0 ∷ (a 0x0 ∷ (o 0x80 ∷ (r 0 ∷ (r 1 ∷ (c 0x78 ∷ (a 0x0 ∷ (a 0x0 ∷ (a 0x0 ∷ (o 0xe0 ∷ (c 0x78 ∷ (a 0x20 ∷ (a 0x0 ∷ (a 0x0 ∷ (o 0xe0 ∷ []))))))))))))))))))))))))))))))))) ≡ true
unfolding command width effect_among breaks_not_there breaks_command_unknown breaks_sequence_open breaks_several_luns breaks_no_column_to_change breaks_command_misplaced breaks_address_misplaced breaks_row_outside breaks_lun_busy breaks_queue_clash breaks_input_misplaced breaks_no_sole_driver breaks_data_not_ready breaks_column_outside breaks_cache_read_misplaced breaks_cache_program_misplaced breaks_copyback_misplaced breaks_plane_not_held
two_luns_in_turn = refl

-- an opener where the only LUN is busy; with another LUN its row decides
opener_on_a_busy_lun : broken one_lun 1 (reverse (c 0x60 ∷ (a 0x0 ∷ (a 0x0 ∷ (a 0x0 ∷ (c 0xd0 ∷ [])))))) (c 0x60) ≡ Some LunBusy
unfolding command width effect_among breaks_not_there breaks_command_unknown breaks_sequence_open breaks_several_luns breaks_no_column_to_change breaks_command_misplaced breaks_address_misplaced breaks_row_outside breaks_lun_busy breaks_queue_clash breaks_input_misplaced breaks_no_sole_driver breaks_data_not_ready breaks_column_outside breaks_cache_read_misplaced breaks_cache_program_misplaced breaks_copyback_misplaced breaks_plane_not_held
opener_on_a_busy_lun = refl

opener_beside_a_busy_lun : is_legal two_luns 1 (reverse (c 0x60 ∷ (a 0x0 ∷ (a 0x0 ∷ (a 0x0 ∷ (c 0xd0 ∷ (c 0x60 ∷ []))))))) ≡ true
unfolding command width effect_among breaks_not_there breaks_command_unknown breaks_sequence_open breaks_several_luns breaks_no_column_to_change breaks_command_misplaced breaks_address_misplaced breaks_row_outside breaks_lun_busy breaks_queue_clash breaks_input_misplaced breaks_no_sole_driver breaks_data_not_ready breaks_column_outside breaks_cache_read_misplaced breaks_cache_program_misplaced breaks_copyback_misplaced breaks_plane_not_held
opener_beside_a_busy_lun = refl

row_of_a_busy_lun : broken two_luns 1 (reverse (c 0x60 ∷ (a 0x0 ∷ (a 0x0 ∷ (a 0x0 ∷ (c 0xd0 ∷ (c 0x60 ∷ (a 0x0 ∷ (a 0x0 ∷ []))))))))) (a 0x0) ≡ Some LunBusy
unfolding command width effect_among breaks_not_there breaks_command_unknown breaks_sequence_open breaks_several_luns breaks_no_column_to_change breaks_command_misplaced breaks_address_misplaced breaks_row_outside breaks_lun_busy breaks_queue_clash breaks_input_misplaced breaks_no_sole_driver breaks_data_not_ready breaks_column_outside breaks_cache_read_misplaced breaks_cache_program_misplaced breaks_copyback_misplaced breaks_plane_not_held
row_of_a_busy_lun = refl

-- 2. for each rule a trace that breaks exactly it

no_such_target : broken one_lun 1 [] (Cyc (record { ce = 1; kind = Cmd; byte = 0x60 })) ≡ Some NotThere
unfolding command width effect_among breaks_not_there breaks_command_unknown breaks_sequence_open breaks_several_luns breaks_no_column_to_change breaks_command_misplaced breaks_address_misplaced breaks_row_outside breaks_lun_busy breaks_queue_clash breaks_input_misplaced breaks_no_sole_driver breaks_data_not_ready breaks_column_outside breaks_cache_read_misplaced breaks_cache_program_misplaced breaks_copyback_misplaced breaks_plane_not_held
no_such_target = refl

ready_of_no_busy_lun : broken one_lun 1 (reverse []) (r 0) ≡ Some NotThere
unfolding command width effect_among breaks_not_there breaks_command_unknown breaks_sequence_open breaks_several_luns breaks_no_column_to_change breaks_command_misplaced breaks_address_misplaced breaks_row_outside breaks_lun_busy breaks_queue_clash breaks_input_misplaced breaks_no_sole_driver breaks_data_not_ready breaks_column_outside breaks_cache_read_misplaced breaks_cache_program_misplaced breaks_copyback_misplaced breaks_plane_not_held
ready_of_no_busy_lun = refl

ready_of_no_lun : broken one_lun 1 (reverse (c 0x60 ∷ (a 0x0 ∷ (a 0x0 ∷ (a 0x0 ∷ (c 0xd0 ∷ [])))))) (r 1) ≡ Some NotThere
unfolding command width effect_among breaks_not_there breaks_command_unknown breaks_sequence_open breaks_several_luns breaks_no_column_to_change breaks_command_misplaced breaks_address_misplaced breaks_row_outside breaks_lun_busy breaks_queue_clash breaks_input_misplaced breaks_no_sole_driver breaks_data_not_ready breaks_column_outside breaks_cache_read_misplaced breaks_cache_program_misplaced breaks_copyback_misplaced breaks_plane_not_held
ready_of_no_lun = refl

array_ready_of_no_busy_array : then_breaks with_cache (c 0x0 ∷ (a 0x0 ∷ (a 0x0 ∷ (a 0x0 ∷ (a 0x0 ∷ (a 0x0 ∷ (c 0x30 ∷ (r 0 ∷ (c 0x31 ∷ []))))))))) (Ard 0 0 false) ≡ Some NotThere
unfolding command width effect_among breaks_not_there breaks_command_unknown breaks_sequence_open breaks_several_luns breaks_no_column_to_change breaks_command_misplaced breaks_address_misplaced breaks_row_outside breaks_lun_busy breaks_queue_clash breaks_input_misplaced breaks_no_sole_driver breaks_data_not_ready breaks_column_outside breaks_cache_read_misplaced breaks_cache_program_misplaced breaks_copyback_misplaced breaks_plane_not_held
array_ready_of_no_busy_array = refl

unknown_command : broken one_lun 1 (reverse []) (c 0x15) ≡ Some CommandUnknown
unfolding command width effect_among breaks_not_there breaks_command_unknown breaks_sequence_open breaks_several_luns breaks_no_column_to_change breaks_command_misplaced breaks_address_misplaced breaks_row_outside breaks_lun_busy breaks_queue_clash breaks_input_misplaced breaks_no_sole_driver breaks_data_not_ready breaks_column_outside breaks_cache_read_misplaced breaks_cache_program_misplaced breaks_copyback_misplaced breaks_plane_not_held
unknown_command = refl

undeclared_status : broken one_lun 1 (reverse []) (c 0x78) ≡ Some CommandUnknown
unfolding command width effect_among breaks_not_there breaks_command_unknown breaks_sequence_open breaks_several_luns breaks_no_column_to_change breaks_command_misplaced breaks_address_misplaced breaks_row_outside breaks_lun_busy breaks_queue_clash breaks_input_misplaced breaks_no_sole_driver breaks_data_not_ready breaks_column_outside breaks_cache_read_misplaced breaks_cache_program_misplaced breaks_copyback_misplaced breaks_plane_not_held
undeclared_status = refl

undeclared_erase_plane : broken one_lun 1 (reverse []) (c 0xd1) ≡ Some CommandUnknown
unfolding command width effect_among breaks_not_there breaks_command_unknown breaks_sequence_open breaks_several_luns breaks_no_column_to_change breaks_command_misplaced breaks_address_misplaced breaks_row_outside breaks_lun_busy breaks_queue_clash breaks_input_misplaced breaks_no_sole_driver breaks_data_not_ready breaks_column_outside breaks_cache_read_misplaced breaks_cache_program_misplaced breaks_copyback_misplaced breaks_plane_not_held
undeclared_erase_plane = refl

undeclared_program_plane : broken one_lun 1 (reverse []) (c 0x11) ≡ Some CommandUnknown
unfolding command width effect_among breaks_not_there breaks_command_unknown breaks_sequence_open breaks_several_luns breaks_no_column_to_change breaks_command_misplaced breaks_address_misplaced breaks_row_outside breaks_lun_busy breaks_queue_clash breaks_input_misplaced breaks_no_sole_driver breaks_data_not_ready breaks_column_outside breaks_cache_read_misplaced breaks_cache_program_misplaced breaks_copyback_misplaced breaks_plane_not_held
undeclared_program_plane = refl

undeclared_cache_read : broken one_lun 1 (reverse []) (c 0x31) ≡ Some CommandUnknown
unfolding command width effect_among breaks_not_there breaks_command_unknown breaks_sequence_open breaks_several_luns breaks_no_column_to_change breaks_command_misplaced breaks_address_misplaced breaks_row_outside breaks_lun_busy breaks_queue_clash breaks_input_misplaced breaks_no_sole_driver breaks_data_not_ready breaks_column_outside breaks_cache_read_misplaced breaks_cache_program_misplaced breaks_copyback_misplaced breaks_plane_not_held
undeclared_cache_read = refl

undeclared_cache_end : broken one_lun 1 (reverse []) (c 0x3f) ≡ Some CommandUnknown
unfolding command width effect_among breaks_not_there breaks_command_unknown breaks_sequence_open breaks_several_luns breaks_no_column_to_change breaks_command_misplaced breaks_address_misplaced breaks_row_outside breaks_lun_busy breaks_queue_clash breaks_input_misplaced breaks_no_sole_driver breaks_data_not_ready breaks_column_outside breaks_cache_read_misplaced breaks_cache_program_misplaced breaks_copyback_misplaced breaks_plane_not_held
undeclared_cache_end = refl

program_is_taken : broken one_lun 1 (reverse []) (c 0x80) ≡ None
unfolding command width effect_among breaks_not_there breaks_command_unknown breaks_sequence_open breaks_several_luns breaks_no_column_to_change breaks_command_misplaced breaks_address_misplaced breaks_row_outside breaks_lun_busy breaks_queue_clash breaks_input_misplaced breaks_no_sole_driver breaks_data_not_ready breaks_column_outside breaks_cache_read_misplaced breaks_cache_program_misplaced breaks_copyback_misplaced breaks_plane_not_held
program_is_taken = refl

opener_in_an_open_sequence : broken one_lun 1 (reverse (c 0x60 ∷ [])) (c 0x60) ≡ Some SequenceOpen
unfolding command width effect_among breaks_not_there breaks_command_unknown breaks_sequence_open breaks_several_luns breaks_no_column_to_change breaks_command_misplaced breaks_address_misplaced breaks_row_outside breaks_lun_busy breaks_queue_clash breaks_input_misplaced breaks_no_sole_driver breaks_data_not_ready breaks_column_outside breaks_cache_read_misplaced breaks_cache_program_misplaced breaks_copyback_misplaced breaks_plane_not_held
opener_in_an_open_sequence = refl

status_of_several_luns : broken two_luns 1 (reverse []) (c 0x70) ≡ Some SeveralLuns
unfolding command width effect_among breaks_not_there breaks_command_unknown breaks_sequence_open breaks_several_luns breaks_no_column_to_change breaks_command_misplaced breaks_address_misplaced breaks_row_outside breaks_lun_busy breaks_queue_clash breaks_input_misplaced breaks_no_sole_driver breaks_data_not_ready breaks_column_outside breaks_cache_read_misplaced breaks_cache_program_misplaced breaks_copyback_misplaced breaks_plane_not_held
status_of_several_luns = refl

identifier_of_several_luns : then_breaks two_luns [] (c 0x90) ≡ Some SeveralLuns
unfolding command width effect_among breaks_not_there breaks_command_unknown breaks_sequence_open breaks_several_luns breaks_no_column_to_change breaks_command_misplaced breaks_address_misplaced breaks_row_outside breaks_lun_busy breaks_queue_clash breaks_input_misplaced breaks_no_sole_driver breaks_data_not_ready breaks_column_outside breaks_cache_read_misplaced breaks_cache_program_misplaced breaks_copyback_misplaced breaks_plane_not_held
identifier_of_several_luns = refl

column_change_without_data : then_breaks one_lun [] (c 0x5) ≡ Some NoColumnToChange
unfolding command width effect_among breaks_not_there breaks_command_unknown breaks_sequence_open breaks_several_luns breaks_no_column_to_change breaks_command_misplaced breaks_address_misplaced breaks_row_outside breaks_lun_busy breaks_queue_clash breaks_input_misplaced breaks_no_sole_driver breaks_data_not_ready breaks_column_outside breaks_cache_read_misplaced breaks_cache_program_misplaced breaks_copyback_misplaced breaks_plane_not_held
column_change_without_data = refl

closer_without_addresses : broken one_lun 1 (reverse (c 0x60 ∷ (a 0x0 ∷ (a 0x0 ∷ [])))) (c 0xd0) ≡ Some CommandMisplaced
unfolding command width effect_among breaks_not_there breaks_command_unknown breaks_sequence_open breaks_several_luns breaks_no_column_to_change breaks_command_misplaced breaks_address_misplaced breaks_row_outside breaks_lun_busy breaks_queue_clash breaks_input_misplaced breaks_no_sole_driver breaks_data_not_ready breaks_column_outside breaks_cache_read_misplaced breaks_cache_program_misplaced breaks_copyback_misplaced breaks_plane_not_held
closer_without_addresses = refl

address_without_opener : broken one_lun 1 (reverse []) (a 0x0) ≡ Some AddressMisplaced
unfolding command width effect_among breaks_not_there breaks_command_unknown breaks_sequence_open breaks_several_luns breaks_no_column_to_change breaks_command_misplaced breaks_address_misplaced breaks_row_outside breaks_lun_busy breaks_queue_clash breaks_input_misplaced breaks_no_sole_driver breaks_data_not_ready breaks_column_outside breaks_cache_read_misplaced breaks_cache_program_misplaced breaks_copyback_misplaced breaks_plane_not_held
address_without_opener = refl

identifier_at_another_address : then_breaks one_lun (c 0x90 ∷ []) (a 0x21) ≡ Some AddressMisplaced
unfolding command width effect_among breaks_not_there breaks_command_unknown breaks_sequence_open breaks_several_luns breaks_no_column_to_change breaks_command_misplaced breaks_address_misplaced breaks_row_outside breaks_lun_busy breaks_queue_clash breaks_input_misplaced breaks_no_sole_driver breaks_data_not_ready breaks_column_outside breaks_cache_read_misplaced breaks_cache_program_misplaced breaks_copyback_misplaced breaks_plane_not_held
identifier_at_another_address = refl

row_outside : broken one_lun 1 (reverse (c 0x60 ∷ (a 0x20 ∷ (a 0x0 ∷ [])))) (a 0x0) ≡ Some RowOutside
unfolding command width effect_among breaks_not_there breaks_command_unknown breaks_sequence_open breaks_several_luns breaks_no_column_to_change breaks_command_misplaced breaks_address_misplaced breaks_row_outside breaks_lun_busy breaks_queue_clash breaks_input_misplaced breaks_no_sole_driver breaks_data_not_ready breaks_column_outside breaks_cache_read_misplaced breaks_cache_program_misplaced breaks_copyback_misplaced breaks_plane_not_held
row_outside = refl

status_row_outside : broken two_luns 1 (reverse (c 0x78 ∷ (a 0x40 ∷ (a 0x0 ∷ [])))) (a 0x0) ≡ Some RowOutside
unfolding command width effect_among breaks_not_there breaks_command_unknown breaks_sequence_open breaks_several_luns breaks_no_column_to_change breaks_command_misplaced breaks_address_misplaced breaks_row_outside breaks_lun_busy breaks_queue_clash breaks_input_misplaced breaks_no_sole_driver breaks_data_not_ready breaks_column_outside breaks_cache_read_misplaced breaks_cache_program_misplaced breaks_copyback_misplaced breaks_plane_not_held
status_row_outside = refl

erase_of_a_busy_lun : broken two_luns 1 (reverse (c 0x60 ∷ (a 0x0 ∷ (a 0x0 ∷ (a 0x0 ∷ (c 0xd0 ∷ (c 0x60 ∷ (a 0x0 ∷ (a 0x0 ∷ []))))))))) (a 0x0) ≡ Some LunBusy
unfolding command width effect_among breaks_not_there breaks_command_unknown breaks_sequence_open breaks_several_luns breaks_no_column_to_change breaks_command_misplaced breaks_address_misplaced breaks_row_outside breaks_lun_busy breaks_queue_clash breaks_input_misplaced breaks_no_sole_driver breaks_data_not_ready breaks_column_outside breaks_cache_read_misplaced breaks_cache_program_misplaced breaks_copyback_misplaced breaks_plane_not_held
erase_of_a_busy_lun = refl

queue_with_the_same_plane : then_breaks two_luns (c 0x60 ∷ (a 0x0 ∷ (a 0x0 ∷ (a 0x0 ∷ (c 0xd1 ∷ (r 0 ∷ (c 0x60 ∷ (a 0x0 ∷ (a 0x0 ∷ []))))))))) (a 0x0) ≡ Some QueueClash
unfolding command width effect_among breaks_not_there breaks_command_unknown breaks_sequence_open breaks_several_luns breaks_no_column_to_change breaks_command_misplaced breaks_address_misplaced breaks_row_outside breaks_lun_busy breaks_queue_clash breaks_input_misplaced breaks_no_sole_driver breaks_data_not_ready breaks_column_outside breaks_cache_read_misplaced breaks_cache_program_misplaced breaks_copyback_misplaced breaks_plane_not_held
queue_with_the_same_plane = refl

read_with_a_queue : then_breaks two_luns (c 0x60 ∷ (a 0x0 ∷ (a 0x0 ∷ (a 0x0 ∷ (c 0xd1 ∷ (r 0 ∷ (c 0x0 ∷ (a 0x0 ∷ (a 0x0 ∷ (a 0x0 ∷ (a 0x0 ∷ []))))))))))) (a 0x0) ≡ Some QueueClash
unfolding command width effect_among breaks_not_there breaks_command_unknown breaks_sequence_open breaks_several_luns breaks_no_column_to_change breaks_command_misplaced breaks_address_misplaced breaks_row_outside breaks_lun_busy breaks_queue_clash breaks_input_misplaced breaks_no_sole_driver breaks_data_not_ready breaks_column_outside breaks_cache_read_misplaced breaks_cache_program_misplaced breaks_copyback_misplaced breaks_plane_not_held
read_with_a_queue = refl

input_before_the_last_address : then_breaks one_lun (c 0x80 ∷ (a 0x0 ∷ (a 0x0 ∷ (a 0x0 ∷ (a 0x0 ∷ []))))) (i 0x1) ≡ Some InputMisplaced
unfolding command width effect_among breaks_not_there breaks_command_unknown breaks_sequence_open breaks_several_luns breaks_no_column_to_change breaks_command_misplaced breaks_address_misplaced breaks_row_outside breaks_lun_busy breaks_queue_clash breaks_input_misplaced breaks_no_sole_driver breaks_data_not_ready breaks_column_outside breaks_cache_read_misplaced breaks_cache_program_misplaced breaks_copyback_misplaced breaks_plane_not_held
input_before_the_last_address = refl

output_without_driver : broken one_lun 1 (reverse []) (o 0x0) ≡ Some NoSoleDriver
unfolding command width effect_among breaks_not_there breaks_command_unknown breaks_sequence_open breaks_several_luns breaks_no_column_to_change breaks_command_misplaced breaks_address_misplaced breaks_row_outside breaks_lun_busy breaks_queue_clash breaks_input_misplaced breaks_no_sole_driver breaks_data_not_ready breaks_column_outside breaks_cache_read_misplaced breaks_cache_program_misplaced breaks_copyback_misplaced breaks_plane_not_held
output_without_driver = refl

output_in_an_open_sequence : broken one_lun 1 (reverse (c 0x70 ∷ (c 0x60 ∷ []))) (o 0x0) ≡ Some NoSoleDriver
unfolding command width effect_among breaks_not_there breaks_command_unknown breaks_sequence_open breaks_several_luns breaks_no_column_to_change breaks_command_misplaced breaks_address_misplaced breaks_row_outside breaks_lun_busy breaks_queue_clash breaks_input_misplaced breaks_no_sole_driver breaks_data_not_ready breaks_column_outside breaks_cache_read_misplaced breaks_cache_program_misplaced breaks_copyback_misplaced breaks_plane_not_held
output_in_an_open_sequence = refl

output_of_two_drivers : then_breaks two_luns (c 0x78 ∷ (a 0x20 ∷ (a 0x0 ∷ (a 0x0 ∷ (o 0xe0 ∷ (c 0x0 ∷ (a 0x0 ∷ (a 0x0 ∷ (a 0x0 ∷ (a 0x0 ∷ (a 0x0 ∷ (c 0x30 ∷ (r 0 ∷ []))))))))))))) (o 0xff) ≡ Some NoSoleDriver
unfolding command width effect_among breaks_not_there breaks_command_unknown breaks_sequence_open breaks_several_luns breaks_no_column_to_change breaks_command_misplaced breaks_address_misplaced breaks_row_outside breaks_lun_busy breaks_queue_clash breaks_input_misplaced breaks_no_sole_driver breaks_data_not_ready breaks_column_outside breaks_cache_read_misplaced breaks_cache_program_misplaced breaks_copyback_misplaced breaks_plane_not_held
output_of_two_drivers = refl

column_lost_by_a_status : then_breaks one_lun (c 0x0 ∷ (a 0x0 ∷ (a 0x0 ∷ (a 0x0 ∷ (a 0x0 ∷ (a 0x0 ∷ (c 0x30 ∷ (r 0 ∷ (c 0x70 ∷ (o 0xe0 ∷ (c 0x0 ∷ (o 0xff ∷ (c 0x70 ∷ (o 0xe0 ∷ (c 0x0 ∷ []))))))))))))))) (o 0xff) ≡ Some DataNotReady
unfolding command width effect_among breaks_not_there breaks_command_unknown breaks_sequence_open breaks_several_luns breaks_no_column_to_change breaks_command_misplaced breaks_address_misplaced breaks_row_outside breaks_lun_busy breaks_queue_clash breaks_input_misplaced breaks_no_sole_driver breaks_data_not_ready breaks_column_outside breaks_cache_read_misplaced breaks_cache_program_misplaced breaks_copyback_misplaced breaks_plane_not_held
column_lost_by_a_status = refl

output_while_busy : then_breaks one_lun (c 0x0 ∷ (a 0x0 ∷ (a 0x0 ∷ (a 0x0 ∷ (a 0x0 ∷ (a 0x0 ∷ (c 0x30 ∷ []))))))) (o 0xff) ≡ Some DataNotReady
unfolding command width effect_among breaks_not_there breaks_command_unknown breaks_sequence_open breaks_several_luns breaks_no_column_to_change breaks_command_misplaced breaks_address_misplaced breaks_row_outside breaks_lun_busy breaks_queue_clash breaks_input_misplaced breaks_no_sole_driver breaks_data_not_ready breaks_column_outside breaks_cache_read_misplaced breaks_cache_program_misplaced breaks_copyback_misplaced breaks_plane_not_held
output_while_busy = refl

column_past_the_page : then_breaks one_lun (c 0x0 ∷ (a 0x10 ∷ [])) (a 0x2) ≡ Some ColumnOutside
unfolding command width effect_among breaks_not_there breaks_command_unknown breaks_sequence_open breaks_several_luns breaks_no_column_to_change breaks_command_misplaced breaks_address_misplaced breaks_row_outside breaks_lun_busy breaks_queue_clash breaks_input_misplaced breaks_no_sole_driver breaks_data_not_ready breaks_column_outside breaks_cache_read_misplaced breaks_cache_program_misplaced breaks_copyback_misplaced breaks_plane_not_held
column_past_the_page = refl

output_past_the_identifier : then_breaks one_lun (c 0x90 ∷ (a 0x20 ∷ (o 0x4f ∷ (o 0x4e ∷ (o 0x46 ∷ (o 0x49 ∷ [])))))) (o 0x0) ≡ Some ColumnOutside
unfolding command width effect_among breaks_not_there breaks_command_unknown breaks_sequence_open breaks_several_luns breaks_no_column_to_change breaks_command_misplaced breaks_address_misplaced breaks_row_outside breaks_lun_busy breaks_queue_clash breaks_input_misplaced breaks_no_sole_driver breaks_data_not_ready breaks_column_outside breaks_cache_read_misplaced breaks_cache_program_misplaced breaks_copyback_misplaced breaks_plane_not_held
output_past_the_identifier = refl

cache_read_without_a_read : then_breaks with_cache (c 0x70 ∷ []) (c 0x31) ≡ Some CacheReadMisplaced
unfolding command width effect_among breaks_not_there breaks_command_unknown breaks_sequence_open breaks_several_luns breaks_no_column_to_change breaks_command_misplaced breaks_address_misplaced breaks_row_outside breaks_lun_busy breaks_queue_clash breaks_input_misplaced breaks_no_sole_driver breaks_data_not_ready breaks_column_outside breaks_cache_read_misplaced breaks_cache_program_misplaced breaks_copyback_misplaced breaks_plane_not_held
cache_read_without_a_read = refl

cache_end_without_a_cache_read : then_breaks with_cache (c 0x0 ∷ (a 0x0 ∷ (a 0x0 ∷ (a 0x0 ∷ (a 0x0 ∷ (a 0x0 ∷ (c 0x30 ∷ (r 0 ∷ [])))))))) (c 0x3f) ≡ Some CacheReadMisplaced
unfolding command width effect_among breaks_not_there breaks_command_unknown breaks_sequence_open breaks_several_luns breaks_no_column_to_change breaks_command_misplaced breaks_address_misplaced breaks_row_outside breaks_lun_busy breaks_queue_clash breaks_input_misplaced breaks_no_sole_driver breaks_data_not_ready breaks_column_outside breaks_cache_read_misplaced breaks_cache_program_misplaced breaks_copyback_misplaced breaks_plane_not_held
cache_end_without_a_cache_read = refl

cache_read_past_the_block : then_breaks with_cache (c 0x0 ∷ (a 0x0 ∷ (a 0x0 ∷ (a 0x0 ∷ (a 0x0 ∷ (a 0x0 ∷ (c 0x30 ∷ (r 0 ∷ (c 0x31 ∷ (r 0 ∷ (c 0x31 ∷ (r 0 ∷ (c 0x31 ∷ (r 0 ∷ [])))))))))))))) (c 0x31) ≡ Some CacheReadMisplaced
unfolding command width effect_among breaks_not_there breaks_command_unknown breaks_sequence_open breaks_several_luns breaks_no_column_to_change breaks_command_misplaced breaks_address_misplaced breaks_row_outside breaks_lun_busy breaks_queue_clash breaks_input_misplaced breaks_no_sole_driver breaks_data_not_ready breaks_column_outside breaks_cache_read_misplaced breaks_cache_program_misplaced breaks_copyback_misplaced breaks_plane_not_held
cache_read_past_the_block = refl

-- 3. rows of commands that the bus is still to take

erase_two_planes : passes two_luns (reverse (c 0x60 ∷ (a 0x0 ∷ (a 0x0 ∷ (a 0x0 ∷ (c 0xd1 ∷ (r 0 ∷ (c 0x60 ∷ (a 0x4 ∷ (a 0x0 ∷ (a 0x0 ∷ (c 0xd0 ∷ (r 0 ∷ []))))))))))))) ≡ true
unfolding command width effect_among breaks_not_there breaks_command_unknown breaks_sequence_open breaks_several_luns breaks_no_column_to_change breaks_command_misplaced breaks_address_misplaced breaks_row_outside breaks_lun_busy breaks_queue_clash breaks_input_misplaced breaks_no_sole_driver breaks_data_not_ready breaks_column_outside breaks_cache_read_misplaced breaks_cache_program_misplaced breaks_copyback_misplaced breaks_plane_not_held
erase_two_planes = refl

column_given_again : passes one_lun (reverse (c 0x0 ∷ (a 0x0 ∷ (a 0x0 ∷ (a 0x0 ∷ (a 0x0 ∷ (a 0x0 ∷ (c 0x30 ∷ (r 0 ∷ (c 0x70 ∷ (o 0xe0 ∷ (c 0x0 ∷ (o 0xff ∷ (c 0x70 ∷ (o 0xe0 ∷ (c 0x0 ∷ (c 0x5 ∷ (a 0x4 ∷ (a 0x0 ∷ (c 0xe0 ∷ (o 0xff ∷ (o 0xff ∷ [])))))))))))))))))))))) ≡ true
unfolding command width effect_among breaks_not_there breaks_command_unknown breaks_sequence_open breaks_several_luns breaks_no_column_to_change breaks_command_misplaced breaks_address_misplaced breaks_row_outside breaks_lun_busy breaks_queue_clash breaks_input_misplaced breaks_no_sole_driver breaks_data_not_ready breaks_column_outside breaks_cache_read_misplaced breaks_cache_program_misplaced breaks_copyback_misplaced breaks_plane_not_held
column_given_again = refl

cache_read : passes with_cache (reverse (c 0x0 ∷ (a 0x0 ∷ (a 0x0 ∷ (a 0x0 ∷ (a 0x0 ∷ (a 0x0 ∷ (c 0x30 ∷ (r 0 ∷ (c 0x31 ∷ (c 0x70 ∷ (o 0x80 ∷ (r 0 ∷ (c 0x70 ∷ (o 0xc0 ∷ (Ard 0 0 false ∷ (c 0x0 ∷ (o 0xff ∷ (c 0x3f ∷ (r 0 ∷ (c 0x0 ∷ (o 0xff ∷ [])))))))))))))))))))))) ≡ true
unfolding command width effect_among breaks_not_there breaks_command_unknown breaks_sequence_open breaks_several_luns breaks_no_column_to_change breaks_command_misplaced breaks_address_misplaced breaks_row_outside breaks_lun_busy breaks_queue_clash breaks_input_misplaced breaks_no_sole_driver breaks_data_not_ready breaks_column_outside breaks_cache_read_misplaced breaks_cache_program_misplaced breaks_copyback_misplaced breaks_plane_not_held
cache_read = refl

-- 31h behind the row of a 00h, which the wider profile has

random_cache_read : passes wide_cache (reverse (c 0x0 ∷ (a 0x0 ∷ (a 0x0 ∷ (a 0x0 ∷ (a 0x0 ∷ (a 0x0 ∷ (c 0x30 ∷ (r 0 ∷ (c 0x0 ∷ (a 0x0 ∷ (a 0x0 ∷ (a 0x2 ∷ (a 0x0 ∷ (a 0x0 ∷ (c 0x31 ∷ (r 0 ∷ (o 0xff ∷ (c 0x31 ∷ (r 0 ∷ (c 0x3f ∷ (r 0 ∷ (o 0xff ∷ []))))))))))))))))))))))) ≡ true
unfolding command width effect_among breaks_not_there breaks_command_unknown breaks_sequence_open breaks_several_luns breaks_no_column_to_change breaks_command_misplaced breaks_address_misplaced breaks_row_outside breaks_lun_busy breaks_queue_clash breaks_input_misplaced breaks_no_sole_driver breaks_data_not_ready breaks_column_outside breaks_cache_read_misplaced breaks_cache_program_misplaced breaks_copyback_misplaced breaks_plane_not_held
random_cache_read = refl

random_cache_read_in_the_base : then_breaks with_cache (c 0x0 ∷ (a 0x0 ∷ (a 0x0 ∷ (a 0x0 ∷ (a 0x0 ∷ (a 0x0 ∷ (c 0x30 ∷ (r 0 ∷ (c 0x0 ∷ (a 0x0 ∷ (a 0x0 ∷ (a 0x2 ∷ (a 0x0 ∷ (a 0x0 ∷ [])))))))))))))) (c 0x31) ≡ Some SequenceOpen
unfolding command width effect_among breaks_not_there breaks_command_unknown breaks_sequence_open breaks_several_luns breaks_no_column_to_change breaks_command_misplaced breaks_address_misplaced breaks_row_outside breaks_lun_busy breaks_queue_clash breaks_input_misplaced breaks_no_sole_driver breaks_data_not_ready breaks_column_outside breaks_cache_read_misplaced breaks_cache_program_misplaced breaks_copyback_misplaced breaks_plane_not_held
random_cache_read_in_the_base = refl

random_cache_read_without_a_read : then_breaks wide_cache (c 0x0 ∷ (a 0x0 ∷ (a 0x0 ∷ (a 0x0 ∷ (a 0x0 ∷ (a 0x0 ∷ [])))))) (c 0x31) ≡ Some CacheReadMisplaced
unfolding command width effect_among breaks_not_there breaks_command_unknown breaks_sequence_open breaks_several_luns breaks_no_column_to_change breaks_command_misplaced breaks_address_misplaced breaks_row_outside breaks_lun_busy breaks_queue_clash breaks_input_misplaced breaks_no_sole_driver breaks_data_not_ready breaks_column_outside breaks_cache_read_misplaced breaks_cache_program_misplaced breaks_copyback_misplaced breaks_plane_not_held
random_cache_read_without_a_read = refl

read_amid_a_cache_read : then_breaks wide_cache (c 0x0 ∷ (a 0x0 ∷ (a 0x0 ∷ (a 0x0 ∷ (a 0x0 ∷ (a 0x0 ∷ (c 0x30 ∷ (r 0 ∷ (c 0x0 ∷ (a 0x0 ∷ (a 0x0 ∷ (a 0x2 ∷ (a 0x0 ∷ (a 0x0 ∷ (c 0x31 ∷ (r 0 ∷ (c 0x0 ∷ (a 0x0 ∷ (a 0x0 ∷ (a 0x3 ∷ (a 0x0 ∷ (a 0x0 ∷ [])))))))))))))))))))))) (c 0x30) ≡ Some CacheReadMisplaced
unfolding command width effect_among breaks_not_there breaks_command_unknown breaks_sequence_open breaks_several_luns breaks_no_column_to_change breaks_command_misplaced breaks_address_misplaced breaks_row_outside breaks_lun_busy breaks_queue_clash breaks_input_misplaced breaks_no_sole_driver breaks_data_not_ready breaks_column_outside breaks_cache_read_misplaced breaks_cache_program_misplaced breaks_copyback_misplaced breaks_plane_not_held
read_amid_a_cache_read = refl

erase_amid_a_random_cache_read : then_breaks wide_cache (c 0x0 ∷ (a 0x0 ∷ (a 0x0 ∷ (a 0x0 ∷ (a 0x0 ∷ (a 0x0 ∷ (c 0x30 ∷ (r 0 ∷ (c 0x0 ∷ (a 0x0 ∷ (a 0x0 ∷ (a 0x2 ∷ (a 0x0 ∷ (a 0x0 ∷ (c 0x31 ∷ (r 0 ∷ (c 0x60 ∷ (a 0x4 ∷ (a 0x0 ∷ []))))))))))))))))))) (a 0x0) ≡ Some CacheReadMisplaced
unfolding command width effect_among breaks_not_there breaks_command_unknown breaks_sequence_open breaks_several_luns breaks_no_column_to_change breaks_command_misplaced breaks_address_misplaced breaks_row_outside breaks_lun_busy breaks_queue_clash breaks_input_misplaced breaks_no_sole_driver breaks_data_not_ready breaks_column_outside breaks_cache_read_misplaced breaks_cache_program_misplaced breaks_copyback_misplaced breaks_plane_not_held
erase_amid_a_random_cache_read = refl

cache_read_of_the_last_page : then_breaks wide_cache (c 0x0 ∷ (a 0x0 ∷ (a 0x0 ∷ (a 0x0 ∷ (a 0x0 ∷ (a 0x0 ∷ (c 0x30 ∷ (r 0 ∷ (c 0x0 ∷ (a 0x0 ∷ (a 0x0 ∷ (a 0x3 ∷ (a 0x0 ∷ (a 0x0 ∷ (c 0x31 ∷ (r 0 ∷ [])))))))))))))))) (c 0x31) ≡ Some CacheReadMisplaced
unfolding command width effect_among breaks_not_there breaks_command_unknown breaks_sequence_open breaks_several_luns breaks_no_column_to_change breaks_command_misplaced breaks_address_misplaced breaks_row_outside breaks_lun_busy breaks_queue_clash breaks_input_misplaced breaks_no_sole_driver breaks_data_not_ready breaks_column_outside breaks_cache_read_misplaced breaks_cache_program_misplaced breaks_copyback_misplaced breaks_plane_not_held
cache_read_of_the_last_page = refl

-- 06h, which the wider profile has

registers_of_two_luns : passes wide_luns (reverse (c 0x0 ∷ (a 0x0 ∷ (a 0x0 ∷ (a 0x0 ∷ (a 0x0 ∷ (a 0x0 ∷ (c 0x30 ∷ (c 0x0 ∷ (a 0x0 ∷ (a 0x0 ∷ (a 0x20 ∷ (a 0x0 ∷ (a 0x0 ∷ (c 0x30 ∷ (r 0 ∷ (r 1 ∷ (c 0x6 ∷ (a 0x0 ∷ (a 0x0 ∷ (a 0x0 ∷ (a 0x0 ∷ (a 0x0 ∷ (c 0xe0 ∷ (o 0xff ∷ (c 0x6 ∷ (a 0x0 ∷ (a 0x0 ∷ (a 0x20 ∷ (a 0x0 ∷ (a 0x0 ∷ (c 0xe0 ∷ (o 0xff ∷ []))))))))))))))))))))))))))))))))) ≡ true
unfolding command width effect_among breaks_not_there breaks_command_unknown breaks_sequence_open breaks_several_luns breaks_no_column_to_change breaks_command_misplaced breaks_address_misplaced breaks_row_outside breaks_lun_busy breaks_queue_clash breaks_input_misplaced breaks_no_sole_driver breaks_data_not_ready breaks_column_outside breaks_cache_read_misplaced breaks_cache_program_misplaced breaks_copyback_misplaced breaks_plane_not_held
registers_of_two_luns = refl

register_by_its_plane : passes wide_luns (reverse (c 0x0 ∷ (a 0x0 ∷ (a 0x0 ∷ (a 0x0 ∷ (a 0x0 ∷ (a 0x0 ∷ (c 0x30 ∷ (r 0 ∷ (c 0x6 ∷ (a 0x0 ∷ (a 0x0 ∷ (a 0x8 ∷ (a 0x0 ∷ (a 0x0 ∷ (c 0xe0 ∷ (o 0xff ∷ (c 0x5 ∷ (a 0x1 ∷ (a 0x0 ∷ (c 0xe0 ∷ (o 0xff ∷ [])))))))))))))))))))))) ≡ true
unfolding command width effect_among breaks_not_there breaks_command_unknown breaks_sequence_open breaks_several_luns breaks_no_column_to_change breaks_command_misplaced breaks_address_misplaced breaks_row_outside breaks_lun_busy breaks_queue_clash breaks_input_misplaced breaks_no_sole_driver breaks_data_not_ready breaks_column_outside breaks_cache_read_misplaced breaks_cache_program_misplaced breaks_copyback_misplaced breaks_plane_not_held
register_by_its_plane = refl

register_of_another_plane : then_breaks wide_luns (c 0x0 ∷ (a 0x0 ∷ (a 0x0 ∷ (a 0x0 ∷ (a 0x0 ∷ (a 0x0 ∷ (c 0x30 ∷ (r 0 ∷ (c 0x6 ∷ (a 0x0 ∷ (a 0x0 ∷ (a 0x4 ∷ (a 0x0 ∷ []))))))))))))) (a 0x0) ≡ Some PlaneNotHeld
unfolding command width effect_among breaks_not_there breaks_command_unknown breaks_sequence_open breaks_several_luns breaks_no_column_to_change breaks_command_misplaced breaks_address_misplaced breaks_row_outside breaks_lun_busy breaks_queue_clash breaks_input_misplaced breaks_no_sole_driver breaks_data_not_ready breaks_column_outside breaks_cache_read_misplaced breaks_cache_program_misplaced breaks_copyback_misplaced breaks_plane_not_held
register_of_another_plane = refl

register_of_another_lun : then_breaks wide_luns (c 0x0 ∷ (a 0x0 ∷ (a 0x0 ∷ (a 0x0 ∷ (a 0x0 ∷ (a 0x0 ∷ (c 0x30 ∷ (r 0 ∷ (c 0x6 ∷ (a 0x0 ∷ (a 0x0 ∷ (a 0x20 ∷ (a 0x0 ∷ []))))))))))))) (a 0x0) ≡ Some PlaneNotHeld
unfolding command width effect_among breaks_not_there breaks_command_unknown breaks_sequence_open breaks_several_luns breaks_no_column_to_change breaks_command_misplaced breaks_address_misplaced breaks_row_outside breaks_lun_busy breaks_queue_clash breaks_input_misplaced breaks_no_sole_driver breaks_data_not_ready breaks_column_outside breaks_cache_read_misplaced breaks_cache_program_misplaced breaks_copyback_misplaced breaks_plane_not_held
register_of_another_lun = refl

register_before_any_read : then_breaks wide_luns (c 0x6 ∷ (a 0x0 ∷ (a 0x0 ∷ (a 0x0 ∷ (a 0x0 ∷ []))))) (a 0x0) ≡ Some PlaneNotHeld
unfolding command width effect_among breaks_not_there breaks_command_unknown breaks_sequence_open breaks_several_luns breaks_no_column_to_change breaks_command_misplaced breaks_address_misplaced breaks_row_outside breaks_lun_busy breaks_queue_clash breaks_input_misplaced breaks_no_sole_driver breaks_data_not_ready breaks_column_outside breaks_cache_read_misplaced breaks_cache_program_misplaced breaks_copyback_misplaced breaks_plane_not_held
register_before_any_read = refl

register_of_a_busy_lun : then_breaks wide_luns (c 0x0 ∷ (a 0x0 ∷ (a 0x0 ∷ (a 0x20 ∷ (a 0x0 ∷ (a 0x0 ∷ (c 0x30 ∷ (c 0x6 ∷ (a 0x0 ∷ (a 0x0 ∷ (a 0x20 ∷ (a 0x0 ∷ [])))))))))))) (a 0x0) ≡ Some LunBusy
unfolding command width effect_among breaks_not_there breaks_command_unknown breaks_sequence_open breaks_several_luns breaks_no_column_to_change breaks_command_misplaced breaks_address_misplaced breaks_row_outside breaks_lun_busy breaks_queue_clash breaks_input_misplaced breaks_no_sole_driver breaks_data_not_ready breaks_column_outside breaks_cache_read_misplaced breaks_cache_program_misplaced breaks_copyback_misplaced breaks_plane_not_held
register_of_a_busy_lun = refl

register_past_its_page : then_breaks wide_luns (c 0x0 ∷ (a 0x0 ∷ (a 0x0 ∷ (a 0x0 ∷ (a 0x0 ∷ (a 0x0 ∷ (c 0x30 ∷ (r 0 ∷ (c 0x6 ∷ (a 0x10 ∷ [])))))))))) (a 0x2) ≡ Some ColumnOutside
unfolding command width effect_among breaks_not_there breaks_command_unknown breaks_sequence_open breaks_several_luns breaks_no_column_to_change breaks_command_misplaced breaks_address_misplaced breaks_row_outside breaks_lun_busy breaks_queue_clash breaks_input_misplaced breaks_no_sole_driver breaks_data_not_ready breaks_column_outside breaks_cache_read_misplaced breaks_cache_program_misplaced breaks_copyback_misplaced breaks_plane_not_held
register_past_its_page = refl

register_before_its_confirm : then_breaks wide_luns (c 0x0 ∷ (a 0x0 ∷ (a 0x0 ∷ (a 0x0 ∷ (a 0x0 ∷ (a 0x0 ∷ (c 0x30 ∷ (r 0 ∷ (c 0x6 ∷ (a 0x0 ∷ (a 0x0 ∷ (a 0x0 ∷ (a 0x0 ∷ (a 0x0 ∷ [])))))))))))))) (o 0xff) ≡ Some NoSoleDriver
unfolding command width effect_among breaks_not_there breaks_command_unknown breaks_sequence_open breaks_several_luns breaks_no_column_to_change breaks_command_misplaced breaks_address_misplaced breaks_row_outside breaks_lun_busy breaks_queue_clash breaks_input_misplaced breaks_no_sole_driver breaks_data_not_ready breaks_column_outside breaks_cache_read_misplaced breaks_cache_program_misplaced breaks_copyback_misplaced breaks_plane_not_held
register_before_its_confirm = refl

-- 4. what pages contain, and what a LUN shows

abbrev first_lun : Lun
first_lun = record { ce = 0; lun = 0 }

abbrev page_of : (block page : ℕ) → PageAddress
page_of block page = record { block = block; page = page }

-- a channel whose pages have four bytes would not be in the limits; here only the first bytes are looked at
abbrev small : Parts
small = record { page_bytes = 4; spare_bytes = 0; pages = 4; blocks = 8; luns = 1; plane_bits = 0; enhanced = false; multi_plane = true; cache = false; optional = no_optional }

abbrev all_ones : Lun → PageAddress → List ℕ
all_ones l p = replicate 4 0xff

abbrev bytes_after : List Item → (block page : ℕ) → List ℕ
bytes_after items block page = content small all_ones (reverse items) first_lun (page_of block page)

programmed : bytes_after (c 0x80 ∷ (a 0x0 ∷ (a 0x0 ∷ (a 0x0 ∷ (a 0x0 ∷ (a 0x0 ∷ (i 0xa5 ∷ (i 0x3c ∷ (c 0x10 ∷ (r 0 ∷ [])))))))))) 0 0 ≡ 0xa5 ∷ (0x3c ∷ (0xff ∷ (0xff ∷ [])))
unfolding command width effect_among breaks_not_there breaks_command_unknown breaks_sequence_open breaks_several_luns breaks_no_column_to_change breaks_command_misplaced breaks_address_misplaced breaks_row_outside breaks_lun_busy breaks_queue_clash breaks_input_misplaced breaks_no_sole_driver breaks_data_not_ready breaks_column_outside breaks_cache_read_misplaced breaks_cache_program_misplaced breaks_copyback_misplaced breaks_plane_not_held
programmed = refl

not_yet_programmed : bytes_after (c 0x80 ∷ (a 0x0 ∷ (a 0x0 ∷ (a 0x0 ∷ (a 0x0 ∷ (a 0x0 ∷ (i 0xa5 ∷ (i 0x3c ∷ (c 0x10 ∷ []))))))))) 0 0 ≡ 0xff ∷ (0xff ∷ (0xff ∷ (0xff ∷ [])))
unfolding command width effect_among breaks_not_there breaks_command_unknown breaks_sequence_open breaks_several_luns breaks_no_column_to_change breaks_command_misplaced breaks_address_misplaced breaks_row_outside breaks_lun_busy breaks_queue_clash breaks_input_misplaced breaks_no_sole_driver breaks_data_not_ready breaks_column_outside breaks_cache_read_misplaced breaks_cache_program_misplaced breaks_copyback_misplaced breaks_plane_not_held
not_yet_programmed = refl

failed_program : bytes_after (c 0x80 ∷ (a 0x0 ∷ (a 0x0 ∷ (a 0x0 ∷ (a 0x0 ∷ (a 0x0 ∷ (i 0xa5 ∷ (i 0x3c ∷ (c 0x10 ∷ (Rdy 0 0 failure ∷ [])))))))))) 0 0 ≡ 0xff ∷ (0xff ∷ (0xff ∷ (0xff ∷ [])))
unfolding command width effect_among breaks_not_there breaks_command_unknown breaks_sequence_open breaks_several_luns breaks_no_column_to_change breaks_command_misplaced breaks_address_misplaced breaks_row_outside breaks_lun_busy breaks_queue_clash breaks_input_misplaced breaks_no_sole_driver breaks_data_not_ready breaks_column_outside breaks_cache_read_misplaced breaks_cache_program_misplaced breaks_copyback_misplaced breaks_plane_not_held
failed_program = refl

abandoned_program : bytes_after (c 0x80 ∷ (a 0x0 ∷ (a 0x0 ∷ (a 0x0 ∷ (a 0x0 ∷ (a 0x0 ∷ (i 0xa5 ∷ (i 0x3c ∷ (c 0x10 ∷ (c 0xff ∷ (r 0 ∷ []))))))))))) 0 0 ≡ 0xff ∷ (0xff ∷ (0xff ∷ (0xff ∷ [])))
unfolding command width effect_among breaks_not_there breaks_command_unknown breaks_sequence_open breaks_several_luns breaks_no_column_to_change breaks_command_misplaced breaks_address_misplaced breaks_row_outside breaks_lun_busy breaks_queue_clash breaks_input_misplaced breaks_no_sole_driver breaks_data_not_ready breaks_column_outside breaks_cache_read_misplaced breaks_cache_program_misplaced breaks_copyback_misplaced breaks_plane_not_held
abandoned_program = refl

-- a program leaves the old bytes AND the new ones
programmed_twice : bytes_after (c 0x80 ∷ (a 0x0 ∷ (a 0x0 ∷ (a 0x0 ∷ (a 0x0 ∷ (a 0x0 ∷ (i 0xa5 ∷ (i 0x3c ∷ (c 0x10 ∷ (r 0 ∷ (c 0x80 ∷ (a 0x0 ∷ (a 0x0 ∷ (a 0x0 ∷ (a 0x0 ∷ (a 0x0 ∷ (i 0x0f ∷ (i 0x0f ∷ (c 0x10 ∷ (r 0 ∷ [])))))))))))))))))))) 0 0 ≡ 0x05 ∷ (0x0c ∷ (0xff ∷ (0xff ∷ [])))
unfolding command width effect_among breaks_not_there breaks_command_unknown breaks_sequence_open breaks_several_luns breaks_no_column_to_change breaks_command_misplaced breaks_address_misplaced breaks_row_outside breaks_lun_busy breaks_queue_clash breaks_input_misplaced breaks_no_sole_driver breaks_data_not_ready breaks_column_outside breaks_cache_read_misplaced breaks_cache_program_misplaced breaks_copyback_misplaced breaks_plane_not_held
programmed_twice = refl

-- an erase looks at the block alone
erased : bytes_after (c 0x80 ∷ (a 0x0 ∷ (a 0x0 ∷ (a 0x0 ∷ (a 0x0 ∷ (a 0x0 ∷ (i 0xa5 ∷ (i 0x3c ∷ (c 0x10 ∷ (r 0 ∷ (c 0x60 ∷ (a 0x2 ∷ (a 0x0 ∷ (a 0x0 ∷ (c 0xd0 ∷ (r 0 ∷ [])))))))))))))))) 0 0 ≡ 0xff ∷ (0xff ∷ (0xff ∷ (0xff ∷ [])))
unfolding command width effect_among breaks_not_there breaks_command_unknown breaks_sequence_open breaks_several_luns breaks_no_column_to_change breaks_command_misplaced breaks_address_misplaced breaks_row_outside breaks_lun_busy breaks_queue_clash breaks_input_misplaced breaks_no_sole_driver breaks_data_not_ready breaks_column_outside breaks_cache_read_misplaced breaks_cache_program_misplaced breaks_copyback_misplaced breaks_plane_not_held
erased = refl

another_page : bytes_after (c 0x80 ∷ (a 0x0 ∷ (a 0x0 ∷ (a 0x0 ∷ (a 0x0 ∷ (a 0x0 ∷ (i 0xa5 ∷ (i 0x3c ∷ (c 0x10 ∷ (r 0 ∷ [])))))))))) 0 1 ≡ 0xff ∷ (0xff ∷ (0xff ∷ (0xff ∷ [])))
unfolding command width effect_among breaks_not_there breaks_command_unknown breaks_sequence_open breaks_several_luns breaks_no_column_to_change breaks_command_misplaced breaks_address_misplaced breaks_row_outside breaks_lun_busy breaks_queue_clash breaks_input_misplaced breaks_no_sole_driver breaks_data_not_ready breaks_column_outside breaks_cache_read_misplaced breaks_cache_program_misplaced breaks_copyback_misplaced breaks_plane_not_held
another_page = refl

-- queued pages are programmed with the last of them
queued_page : bytes_after (c 0x80 ∷ (a 0x0 ∷ (a 0x0 ∷ (a 0x0 ∷ (a 0x0 ∷ (a 0x0 ∷ (i 0xa5 ∷ (c 0x11 ∷ (r 0 ∷ (c 0x80 ∷ (a 0x0 ∷ (a 0x0 ∷ (a 0x4 ∷ (a 0x0 ∷ (a 0x0 ∷ (i 0x3c ∷ (c 0x10 ∷ (r 0 ∷ [])))))))))))))))))) 0 0 ≡ 0xa5 ∷ (0xff ∷ (0xff ∷ (0xff ∷ [])))
unfolding command width effect_among breaks_not_there breaks_command_unknown breaks_sequence_open breaks_several_luns breaks_no_column_to_change breaks_command_misplaced breaks_address_misplaced breaks_row_outside breaks_lun_busy breaks_queue_clash breaks_input_misplaced breaks_no_sole_driver breaks_data_not_ready breaks_column_outside breaks_cache_read_misplaced breaks_cache_program_misplaced breaks_copyback_misplaced breaks_plane_not_held
queued_page = refl

last_page : bytes_after (c 0x80 ∷ (a 0x0 ∷ (a 0x0 ∷ (a 0x0 ∷ (a 0x0 ∷ (a 0x0 ∷ (i 0xa5 ∷ (c 0x11 ∷ (r 0 ∷ (c 0x80 ∷ (a 0x0 ∷ (a 0x0 ∷ (a 0x4 ∷ (a 0x0 ∷ (a 0x0 ∷ (i 0x3c ∷ (c 0x10 ∷ (r 0 ∷ [])))))))))))))))))) 1 0 ≡ 0x3c ∷ (0xff ∷ (0xff ∷ (0xff ∷ [])))
unfolding command width effect_among breaks_not_there breaks_command_unknown breaks_sequence_open breaks_several_luns breaks_no_column_to_change breaks_command_misplaced breaks_address_misplaced breaks_row_outside breaks_lun_busy breaks_queue_clash breaks_input_misplaced breaks_no_sole_driver breaks_data_not_ready breaks_column_outside breaks_cache_read_misplaced breaks_cache_program_misplaced breaks_copyback_misplaced breaks_plane_not_held
last_page = refl

queued_not_yet : bytes_after (c 0x80 ∷ (a 0x0 ∷ (a 0x0 ∷ (a 0x0 ∷ (a 0x0 ∷ (a 0x0 ∷ (i 0xa5 ∷ (c 0x11 ∷ (r 0 ∷ (c 0x80 ∷ (a 0x0 ∷ (a 0x0 ∷ (a 0x4 ∷ (a 0x0 ∷ (a 0x0 ∷ (i 0x3c ∷ (c 0x10 ∷ []))))))))))))))))) 0 0 ≡ 0xff ∷ (0xff ∷ (0xff ∷ (0xff ∷ [])))
unfolding command width effect_among breaks_not_there breaks_command_unknown breaks_sequence_open breaks_several_luns breaks_no_column_to_change breaks_command_misplaced breaks_address_misplaced breaks_row_outside breaks_lun_busy breaks_queue_clash breaks_input_misplaced breaks_no_sole_driver breaks_data_not_ready breaks_column_outside breaks_cache_read_misplaced breaks_cache_program_misplaced breaks_copyback_misplaced breaks_plane_not_held
queued_not_yet = refl

queue_failed : bytes_after (c 0x80 ∷ (a 0x0 ∷ (a 0x0 ∷ (a 0x0 ∷ (a 0x0 ∷ (a 0x0 ∷ (i 0xa5 ∷ (c 0x11 ∷ (r 0 ∷ (c 0x80 ∷ (a 0x0 ∷ (a 0x0 ∷ (a 0x4 ∷ (a 0x0 ∷ (a 0x0 ∷ (i 0x3c ∷ (c 0x10 ∷ (Rdy 0 0 failure ∷ [])))))))))))))))))) 0 0 ≡ 0xff ∷ (0xff ∷ (0xff ∷ (0xff ∷ [])))
unfolding command width effect_among breaks_not_there breaks_command_unknown breaks_sequence_open breaks_several_luns breaks_no_column_to_change breaks_command_misplaced breaks_address_misplaced breaks_row_outside breaks_lun_busy breaks_queue_clash breaks_input_misplaced breaks_no_sole_driver breaks_data_not_ready breaks_column_outside breaks_cache_read_misplaced breaks_cache_program_misplaced breaks_copyback_misplaced breaks_plane_not_held
queue_failed = refl

status_ready : status one_lun (reverse []) first_lun ≡ 0xe0
unfolding command width effect_among breaks_not_there breaks_command_unknown breaks_sequence_open breaks_several_luns breaks_no_column_to_change breaks_command_misplaced breaks_address_misplaced breaks_row_outside breaks_lun_busy breaks_queue_clash breaks_input_misplaced breaks_no_sole_driver breaks_data_not_ready breaks_column_outside breaks_cache_read_misplaced breaks_cache_program_misplaced breaks_copyback_misplaced breaks_plane_not_held
status_ready = refl

status_busy : status one_lun (reverse (c 0x60 ∷ (a 0x0 ∷ (a 0x0 ∷ (a 0x0 ∷ (c 0xd0 ∷ [])))))) first_lun ≡ 0x80
unfolding command width effect_among breaks_not_there breaks_command_unknown breaks_sequence_open breaks_several_luns breaks_no_column_to_change breaks_command_misplaced breaks_address_misplaced breaks_row_outside breaks_lun_busy breaks_queue_clash breaks_input_misplaced breaks_no_sole_driver breaks_data_not_ready breaks_column_outside breaks_cache_read_misplaced breaks_cache_program_misplaced breaks_copyback_misplaced breaks_plane_not_held
status_busy = refl

status_failed : status one_lun (reverse (c 0x60 ∷ (a 0x0 ∷ (a 0x0 ∷ (a 0x0 ∷ (c 0xd0 ∷ (Rdy 0 0 failure ∷ []))))))) first_lun ≡ 0xe1
unfolding command width effect_among breaks_not_there breaks_command_unknown breaks_sequence_open breaks_several_luns breaks_no_column_to_change breaks_command_misplaced breaks_address_misplaced breaks_row_outside breaks_lun_busy breaks_queue_clash breaks_input_misplaced breaks_no_sole_driver breaks_data_not_ready breaks_column_outside breaks_cache_read_misplaced breaks_cache_program_misplaced breaks_copyback_misplaced breaks_plane_not_held
status_failed = refl

status_after_a_reset : status one_lun (reverse (c 0x60 ∷ (a 0x0 ∷ (a 0x0 ∷ (a 0x0 ∷ (c 0xd0 ∷ (Rdy 0 0 failure ∷ (c 0xff ∷ (r 0 ∷ []))))))))) first_lun ≡ 0xe0
unfolding command width effect_among breaks_not_there breaks_command_unknown breaks_sequence_open breaks_several_luns breaks_no_column_to_change breaks_command_misplaced breaks_address_misplaced breaks_row_outside breaks_lun_busy breaks_queue_clash breaks_input_misplaced breaks_no_sole_driver breaks_data_not_ready breaks_column_outside breaks_cache_read_misplaced breaks_cache_program_misplaced breaks_copyback_misplaced breaks_plane_not_held
status_after_a_reset = refl

status_of_a_busy_array : status with_cache (reverse (c 0x0 ∷ (a 0x0 ∷ (a 0x0 ∷ (a 0x0 ∷ (a 0x0 ∷ (a 0x0 ∷ (c 0x30 ∷ (r 0 ∷ (c 0x31 ∷ (r 0 ∷ []))))))))))) first_lun ≡ 0xc0
unfolding command width effect_among breaks_not_there breaks_command_unknown breaks_sequence_open breaks_several_luns breaks_no_column_to_change breaks_command_misplaced breaks_address_misplaced breaks_row_outside breaks_lun_busy breaks_queue_clash breaks_input_misplaced breaks_no_sole_driver breaks_data_not_ready breaks_column_outside breaks_cache_read_misplaced breaks_cache_program_misplaced breaks_copyback_misplaced breaks_plane_not_held
status_of_a_busy_array = refl
