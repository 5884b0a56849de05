-- A page is programmed while the next one comes: worked traces of Page Cache Program, computed by the definitions. Traces are written in the order of time.
use Rattle.std.specs.Prelude.{◌≡◌, ℕ, ◌==◌, Bool, true, false, ◌&&◌, List, [], ◌∷◌, reverse, refl, Option, Some, None, replicate, if◌then◌else◌}
use Rattle.nand_geometry.specs.declared.parts.Parts.{Parts}
use Rattle.nand_geometry.specs.Limits.{width}
use Rattle.onfi_cycle.specs.declared.item.Kind.TheVariants.{Cmd, Adr, Din, Dout}
use Rattle.onfi_cycle.specs.declared.item.Kind.{Kind}
use Rattle.onfi_cycle.specs.declared.lun.Lun.{Lun}
use Rattle.onfi_cycle.specs.declared.page_address.PageAddress.{PageAddress}
use Rattle.onfi_cycle.specs.declared.item.Cycle.{Cycle}
use Rattle.onfi_cycle.specs.declared.item.Item.{Item}
use Rattle.onfi_cycle.specs.declared.item.Item.TheVariants.{Cyc, Rdy, Ard}
use Rattle.onfi_cycle.specs.declared.forbidden.Forbidden.{Forbidden}
use Rattle.onfi_cycle.specs.declared.forbidden.Forbidden.TheVariants.{CacheProgramMisplaced, CacheReadMisplaced, CommandMisplaced, CommandUnknown, CopybackMisplaced, LunBusy, NotThere, SeveralLuns}
use Rattle.onfi_cycle.specs.Command.{command}
use Rattle.onfi_cycle.specs.Lun.{effect_among}
use Rattle.onfi_cycle.specs.Channel.{Channel, bus_byte}
use Rattle.onfi_cycle.specs.Rules.{breaks_not_there, breaks_command_unknown, breaks_sequence_open, breaks_several_luns, breaks_no_column_to_change, breaks_command_misplaced, breaks_address_misplaced, breaks_row_outside, breaks_lun_busy, breaks_queue_clash, breaks_input_misplaced, breaks_no_sole_driver, breaks_data_not_ready, breaks_column_outside, breaks_cache_read_misplaced, breaks_cache_program_misplaced, breaks_copyback_misplaced, breaks_plane_not_held}
use Rattle.onfi_cycle.specs.Permitted.{broken, is_legal}

-- pages of 4 bytes, 4 pages of a block, 8 blocks, one LUN, with Page Cache Program, Copyback and Change Read Column Enhanced
abbrev cached : Parts
cached = record { page_bytes = 4; spare_bytes = 0; pages = 4; blocks = 8; luns = 1; plane_bits = 0; enhanced = true; multi_plane = false; cache = true; optional = record { 0 = 32849 } }

-- the same with two planes, of which one Page Cache Program may close the programs
abbrev cached_planes : Parts
cached_planes = record cached { plane_bits = 1; multi_plane = true; optional = record { 0 = 49233 } }

-- and may not
abbrev cached_lone_planes : Parts
cached_lone_planes = record cached { plane_bits = 1; multi_plane = true }

-- the same with two LUNs of two planes
abbrev cached_luns : Parts
cached_luns = record cached_planes { luns = 2 }

-- a chip without Page Cache Program
abbrev small : Parts
small = record cached { optional = record { 0 = 32848 } }

abbrev cycle : Kind → ℕ → Item
cycle kind byte = Cyc (record { ce = 0; kind = kind; byte = byte })

abbrev c : ℕ → Item
c byte = cycle Cmd byte

abbrev a : ℕ → Item
a byte = cycle Adr byte

abbrev i : ℕ → Item
i byte = cycle Din byte

abbrev o : ℕ → Item
o byte = cycle Dout byte

-- a ready that tells of these failures
abbrev ready : ℕ → (last before : Bool) → Item
ready lun last before = Rdy 0 lun (record { last = last; before = before })

abbrev r : ℕ → Item
r lun = ready lun false false

-- a channel whose pages are erased
abbrev erased : Parts → Channel
erased g = record { geometry = g; targets = 1; parameters = replicate 768 0; opening = λ l p. replicate 4 0xff }

abbrev is_byte : ℕ → Option ℕ → Bool
is_byte byte None = false
is_byte byte (Some shown) = shown == byte

abbrev is_shown : Parts → List Item → Cycle → Kind → Bool
is_shown g past x Cmd = true
is_shown g past x Adr = true
is_shown g past x Din = true
is_shown g past x Dout = is_byte x.byte (bus_byte (erased g) past x.ce)

-- each item is permitted, and each output shows the byte that it bears; the items stand newest first
abbrev shows : Parts → List Item → Bool
shows g [] = true
shows g (Cyc x ∷ past) = is_shown g past x x.kind && shows g past
shows g (Rdy ce lun fail ∷ past) = shows g past
shows g (Ard ce lun fail ∷ past) = shows g past

abbrev runs : Parts → List Item → Bool
runs g items = is_legal g 1 (reverse items) && shows g (reverse items)

-- each item is permitted, and then the last one breaks this rule
abbrev then_breaks : Parts → List Item → Item → Option Forbidden
then_breaks g items x = if is_legal g 1 (reverse items) then broken g 1 (reverse items) x else None

status_of_several : then_breaks cached_luns (c 0x80 ∷ (a 0 ∷ (a 0 ∷ (a 0x0 ∷ (a 0 ∷ (a 0 ∷ (c 0x15 ∷ (r 0 ∷ (c 0x60 ∷ (a 0x20 ∷ (a 0 ∷ (a 0 ∷ (c 0xd0 ∷ (r 1 ∷ [])))))))))))))) (c 0x70) ≡ Some SeveralLuns
unfolding command width effect_among breaks_not_there breaks_command_unknown breaks_sequence_open breaks_several_luns breaks_no_column_to_change breaks_command_misplaced breaks_address_misplaced breaks_row_outside breaks_lun_busy breaks_queue_clash breaks_input_misplaced breaks_no_sole_driver breaks_data_not_ready breaks_column_outside breaks_cache_read_misplaced breaks_cache_program_misplaced breaks_copyback_misplaced breaks_plane_not_held
status_of_several = refl

three_pages : runs cached (c 0x80 ∷ (a 0 ∷ (a 0 ∷ (a 0x0 ∷ (a 0 ∷ (a 0 ∷ (i 0x11 ∷ (c 0x15 ∷ (r 0 ∷ (c 0x80 ∷ (a 0 ∷ (a 0 ∷ (a 0x1 ∷ (a 0 ∷ (a 0 ∷ (i 0x22 ∷ (c 0x15 ∷ (r 0 ∷ (c 0x80 ∷ (a 0 ∷ (a 0 ∷ (a 0x2 ∷ (a 0 ∷ (a 0 ∷ (i 0x33 ∷ (c 0x10 ∷ (r 0 ∷ (c 0x00 ∷ (a 0 ∷ (a 0 ∷ (a 0x1 ∷ (a 0 ∷ (a 0 ∷ (c 0x30 ∷ (r 0 ∷ (o 0x22 ∷ [])))))))))))))))))))))))))))))))))))) ≡ true
unfolding command width effect_among breaks_not_there breaks_command_unknown breaks_sequence_open breaks_several_luns breaks_no_column_to_change breaks_command_misplaced breaks_address_misplaced breaks_row_outside breaks_lun_busy breaks_queue_clash breaks_input_misplaced breaks_no_sole_driver breaks_data_not_ready breaks_column_outside breaks_cache_read_misplaced breaks_cache_program_misplaced breaks_copyback_misplaced breaks_plane_not_held
three_pages = refl

array_ready : runs cached (c 0x80 ∷ (a 0 ∷ (a 0 ∷ (a 0x0 ∷ (a 0 ∷ (a 0 ∷ (i 0xf ∷ (c 0x15 ∷ (r 0 ∷ (c 0x70 ∷ (o 0xc0 ∷ (Ard 0 0 false ∷ (c 0x70 ∷ (o 0xe0 ∷ (c 0x00 ∷ (a 0 ∷ (a 0 ∷ (a 0x0 ∷ (a 0 ∷ (a 0 ∷ (c 0x30 ∷ (r 0 ∷ (o 0xf ∷ []))))))))))))))))))))))) ≡ true
unfolding command width effect_among breaks_not_there breaks_command_unknown breaks_sequence_open breaks_several_luns breaks_no_column_to_change breaks_command_misplaced breaks_address_misplaced breaks_row_outside breaks_lun_busy breaks_queue_clash breaks_input_misplaced breaks_no_sole_driver breaks_data_not_ready breaks_column_outside breaks_cache_read_misplaced breaks_cache_program_misplaced breaks_copyback_misplaced breaks_plane_not_held
array_ready = refl

read_while_programming : then_breaks cached (c 0x80 ∷ (a 0 ∷ (a 0 ∷ (a 0x0 ∷ (a 0 ∷ (a 0 ∷ (c 0x15 ∷ (r 0 ∷ (c 0x00 ∷ (a 0 ∷ (a 0 ∷ (a 0x0 ∷ (a 0 ∷ []))))))))))))) (a 0) ≡ Some CacheProgramMisplaced
unfolding command width effect_among breaks_not_there breaks_command_unknown breaks_sequence_open breaks_several_luns breaks_no_column_to_change breaks_command_misplaced breaks_address_misplaced breaks_row_outside breaks_lun_busy breaks_queue_clash breaks_input_misplaced breaks_no_sole_driver breaks_data_not_ready breaks_column_outside breaks_cache_read_misplaced breaks_cache_program_misplaced breaks_copyback_misplaced breaks_plane_not_held
read_while_programming = refl

erase_while_programming : then_breaks cached (c 0x80 ∷ (a 0 ∷ (a 0 ∷ (a 0x0 ∷ (a 0 ∷ (a 0 ∷ (c 0x15 ∷ (r 0 ∷ (c 0x60 ∷ (a 0x4 ∷ (a 0 ∷ []))))))))))) (a 0) ≡ Some CacheProgramMisplaced
unfolding command width effect_among breaks_not_there breaks_command_unknown breaks_sequence_open breaks_several_luns breaks_no_column_to_change breaks_command_misplaced breaks_address_misplaced breaks_row_outside breaks_lun_busy breaks_queue_clash breaks_input_misplaced breaks_no_sole_driver breaks_data_not_ready breaks_column_outside breaks_cache_read_misplaced breaks_cache_program_misplaced breaks_copyback_misplaced breaks_plane_not_held
erase_while_programming = refl

next_before_ready : then_breaks cached (c 0x80 ∷ (a 0 ∷ (a 0 ∷ (a 0x0 ∷ (a 0 ∷ (a 0 ∷ (c 0x15 ∷ []))))))) (c 0x80) ≡ Some LunBusy
unfolding command width effect_among breaks_not_there breaks_command_unknown breaks_sequence_open breaks_several_luns breaks_no_column_to_change breaks_command_misplaced breaks_address_misplaced breaks_row_outside breaks_lun_busy breaks_queue_clash breaks_input_misplaced breaks_no_sole_driver breaks_data_not_ready breaks_column_outside breaks_cache_read_misplaced breaks_cache_program_misplaced breaks_copyback_misplaced breaks_plane_not_held
next_before_ready = refl

identity_while_programming : then_breaks cached (c 0x80 ∷ (a 0 ∷ (a 0 ∷ (a 0x0 ∷ (a 0 ∷ (a 0 ∷ (c 0x15 ∷ (r 0 ∷ [])))))))) (c 0x90) ≡ Some CacheProgramMisplaced
unfolding command width effect_among breaks_not_there breaks_command_unknown breaks_sequence_open breaks_several_luns breaks_no_column_to_change breaks_command_misplaced breaks_address_misplaced breaks_row_outside breaks_lun_busy breaks_queue_clash breaks_input_misplaced breaks_no_sole_driver breaks_data_not_ready breaks_column_outside breaks_cache_read_misplaced breaks_cache_program_misplaced breaks_copyback_misplaced breaks_plane_not_held
identity_while_programming = refl

cache_read_while_programming : then_breaks cached (c 0x80 ∷ (a 0 ∷ (a 0 ∷ (a 0x0 ∷ (a 0 ∷ (a 0 ∷ (c 0x15 ∷ (r 0 ∷ [])))))))) (c 0x31) ≡ Some CacheReadMisplaced
unfolding command width effect_among breaks_not_there breaks_command_unknown breaks_sequence_open breaks_several_luns breaks_no_column_to_change breaks_command_misplaced breaks_address_misplaced breaks_row_outside breaks_lun_busy breaks_queue_clash breaks_input_misplaced breaks_no_sole_driver breaks_data_not_ready breaks_column_outside breaks_cache_read_misplaced breaks_cache_program_misplaced breaks_copyback_misplaced breaks_plane_not_held
cache_read_while_programming = refl

second_array_ready : then_breaks cached (c 0x80 ∷ (a 0 ∷ (a 0 ∷ (a 0x0 ∷ (a 0 ∷ (a 0 ∷ (c 0x15 ∷ (r 0 ∷ (Ard 0 0 false ∷ []))))))))) (Ard 0 0 false) ≡ Some NotThere
unfolding command width effect_among breaks_not_there breaks_command_unknown breaks_sequence_open breaks_several_luns breaks_no_column_to_change breaks_command_misplaced breaks_address_misplaced breaks_row_outside breaks_lun_busy breaks_queue_clash breaks_input_misplaced breaks_no_sole_driver breaks_data_not_ready breaks_column_outside breaks_cache_read_misplaced breaks_cache_program_misplaced breaks_copyback_misplaced breaks_plane_not_held
second_array_ready = refl

array_ready_before_ready : then_breaks cached (c 0x80 ∷ (a 0 ∷ (a 0 ∷ (a 0x0 ∷ (a 0 ∷ (a 0 ∷ (c 0x15 ∷ []))))))) (Ard 0 0 false) ≡ Some NotThere
unfolding command width effect_among breaks_not_there breaks_command_unknown breaks_sequence_open breaks_several_luns breaks_no_column_to_change breaks_command_misplaced breaks_address_misplaced breaks_row_outside breaks_lun_busy breaks_queue_clash breaks_input_misplaced breaks_no_sole_driver breaks_data_not_ready breaks_column_outside breaks_cache_read_misplaced breaks_cache_program_misplaced breaks_copyback_misplaced breaks_plane_not_held
array_ready_before_ready = refl

next_waits_for_array : then_breaks cached (c 0x80 ∷ (a 0 ∷ (a 0 ∷ (a 0x0 ∷ (a 0 ∷ (a 0 ∷ (c 0x15 ∷ (r 0 ∷ (c 0x80 ∷ (a 0 ∷ (a 0 ∷ (a 0x1 ∷ (a 0 ∷ (a 0 ∷ (c 0x15 ∷ []))))))))))))))) (Ard 0 0 false) ≡ Some NotThere
unfolding command width effect_among breaks_not_there breaks_command_unknown breaks_sequence_open breaks_several_luns breaks_no_column_to_change breaks_command_misplaced breaks_address_misplaced breaks_row_outside breaks_lun_busy breaks_queue_clash breaks_input_misplaced breaks_no_sole_driver breaks_data_not_ready breaks_column_outside breaks_cache_read_misplaced breaks_cache_program_misplaced breaks_copyback_misplaced breaks_plane_not_held
next_waits_for_array = refl

array_over_planes : runs cached_planes (c 0x80 ∷ (a 0 ∷ (a 0 ∷ (a 0x0 ∷ (a 0 ∷ (a 0 ∷ (c 0x15 ∷ (r 0 ∷ (c 0x80 ∷ (a 0 ∷ (a 0 ∷ (a 0x1 ∷ (a 0 ∷ (a 0 ∷ (c 0x11 ∷ (Ard 0 0 false ∷ (r 0 ∷ (c 0x80 ∷ (a 0 ∷ (a 0 ∷ (a 0x5 ∷ (a 0 ∷ (a 0 ∷ (c 0x15 ∷ (r 0 ∷ []))))))))))))))))))))))))) ≡ true
unfolding command width effect_among breaks_not_there breaks_command_unknown breaks_sequence_open breaks_several_luns breaks_no_column_to_change breaks_command_misplaced breaks_address_misplaced breaks_row_outside breaks_lun_busy breaks_queue_clash breaks_input_misplaced breaks_no_sole_driver breaks_data_not_ready breaks_column_outside breaks_cache_read_misplaced breaks_cache_program_misplaced breaks_copyback_misplaced breaks_plane_not_held
array_over_planes = refl

planes_closed_by_cache : then_breaks cached_lone_planes (c 0x80 ∷ (a 0 ∷ (a 0 ∷ (a 0x1 ∷ (a 0 ∷ (a 0 ∷ (c 0x11 ∷ (r 0 ∷ (c 0x80 ∷ (a 0 ∷ (a 0 ∷ (a 0x5 ∷ (a 0 ∷ (a 0 ∷ [])))))))))))))) (c 0x15) ≡ Some CacheProgramMisplaced
unfolding command width effect_among breaks_not_there breaks_command_unknown breaks_sequence_open breaks_several_luns breaks_no_column_to_change breaks_command_misplaced breaks_address_misplaced breaks_row_outside breaks_lun_busy breaks_queue_clash breaks_input_misplaced breaks_no_sole_driver breaks_data_not_ready breaks_column_outside breaks_cache_read_misplaced breaks_cache_program_misplaced breaks_copyback_misplaced breaks_plane_not_held
planes_closed_by_cache = refl

abandoned : runs cached (c 0x80 ∷ (a 0 ∷ (a 0 ∷ (a 0x0 ∷ (a 0 ∷ (a 0 ∷ (i 0xf ∷ (c 0x15 ∷ (r 0 ∷ (c 0xff ∷ (r 0 ∷ (c 0x00 ∷ (a 0 ∷ (a 0 ∷ (a 0x0 ∷ (a 0 ∷ (a 0 ∷ (c 0x30 ∷ (r 0 ∷ (o 0xff ∷ [])))))))))))))))))))) ≡ true
unfolding command width effect_among breaks_not_there breaks_command_unknown breaks_sequence_open breaks_several_luns breaks_no_column_to_change breaks_command_misplaced breaks_address_misplaced breaks_row_outside breaks_lun_busy breaks_queue_clash breaks_input_misplaced breaks_no_sole_driver breaks_data_not_ready breaks_column_outside breaks_cache_read_misplaced breaks_cache_program_misplaced breaks_copyback_misplaced breaks_plane_not_held
abandoned = refl

page_before_failed : runs cached (c 0x80 ∷ (a 0 ∷ (a 0 ∷ (a 0x0 ∷ (a 0 ∷ (a 0 ∷ (i 0xf ∷ (c 0x15 ∷ (r 0 ∷ (c 0x80 ∷ (a 0 ∷ (a 0 ∷ (a 0x1 ∷ (a 0 ∷ (a 0 ∷ (i 0x1e ∷ (c 0x15 ∷ (ready 0 false true ∷ (c 0x70 ∷ (o 0xc2 ∷ (Ard 0 0 false ∷ (c 0x70 ∷ (o 0xe2 ∷ (c 0x00 ∷ (a 0 ∷ (a 0 ∷ (a 0x0 ∷ (a 0 ∷ (a 0 ∷ (c 0x30 ∷ (r 0 ∷ (o 0xff ∷ (c 0x00 ∷ (a 0 ∷ (a 0 ∷ (a 0x1 ∷ (a 0 ∷ (a 0 ∷ (c 0x30 ∷ (r 0 ∷ (o 0x1e ∷ []))))))))))))))))))))))))))))))))))))))))) ≡ true
unfolding command width effect_among breaks_not_there breaks_command_unknown breaks_sequence_open breaks_several_luns breaks_no_column_to_change breaks_command_misplaced breaks_address_misplaced breaks_row_outside breaks_lun_busy breaks_queue_clash breaks_input_misplaced breaks_no_sole_driver breaks_data_not_ready breaks_column_outside breaks_cache_read_misplaced breaks_cache_program_misplaced breaks_copyback_misplaced breaks_plane_not_held
page_before_failed = refl

array_tells_failure : runs cached (c 0x80 ∷ (a 0 ∷ (a 0 ∷ (a 0x0 ∷ (a 0 ∷ (a 0 ∷ (i 0xf ∷ (c 0x15 ∷ (r 0 ∷ (Ard 0 0 true ∷ (c 0x70 ∷ (o 0xe1 ∷ (c 0x80 ∷ (a 0 ∷ (a 0 ∷ (a 0x1 ∷ (a 0 ∷ (a 0 ∷ (i 0x1e ∷ (c 0x10 ∷ (r 0 ∷ (c 0x70 ∷ (o 0xe2 ∷ []))))))))))))))))))))))) ≡ true
unfolding command width effect_among breaks_not_there breaks_command_unknown breaks_sequence_open breaks_several_luns breaks_no_column_to_change breaks_command_misplaced breaks_address_misplaced breaks_row_outside breaks_lun_busy breaks_queue_clash breaks_input_misplaced breaks_no_sole_driver breaks_data_not_ready breaks_column_outside breaks_cache_read_misplaced breaks_cache_program_misplaced breaks_copyback_misplaced breaks_plane_not_held
array_tells_failure = refl

both_failed : runs cached (c 0x80 ∷ (a 0 ∷ (a 0 ∷ (a 0x0 ∷ (a 0 ∷ (a 0 ∷ (c 0x15 ∷ (r 0 ∷ (c 0x80 ∷ (a 0 ∷ (a 0 ∷ (a 0x1 ∷ (a 0 ∷ (a 0 ∷ (c 0x10 ∷ (ready 0 true true ∷ (c 0x70 ∷ (o 0xe3 ∷ [])))))))))))))))))) ≡ true
unfolding command width effect_among breaks_not_there breaks_command_unknown breaks_sequence_open breaks_several_luns breaks_no_column_to_change breaks_command_misplaced breaks_address_misplaced breaks_row_outside breaks_lun_busy breaks_queue_clash breaks_input_misplaced breaks_no_sole_driver breaks_data_not_ready breaks_column_outside breaks_cache_read_misplaced breaks_cache_program_misplaced breaks_copyback_misplaced breaks_plane_not_held
both_failed = refl

first_tells_none : runs cached (c 0x80 ∷ (a 0 ∷ (a 0 ∷ (a 0x0 ∷ (a 0 ∷ (a 0 ∷ (c 0x15 ∷ (ready 0 true true ∷ (c 0x70 ∷ (o 0xc0 ∷ [])))))))))) ≡ true
unfolding command width effect_among breaks_not_there breaks_command_unknown breaks_sequence_open breaks_several_luns breaks_no_column_to_change breaks_command_misplaced breaks_address_misplaced breaks_row_outside breaks_lun_busy breaks_queue_clash breaks_input_misplaced breaks_no_sole_driver breaks_data_not_ready breaks_column_outside breaks_cache_read_misplaced breaks_cache_program_misplaced breaks_copyback_misplaced breaks_plane_not_held
first_tells_none = refl

lone_program_tells_none : runs cached (c 0x80 ∷ (a 0 ∷ (a 0 ∷ (a 0x0 ∷ (a 0 ∷ (a 0 ∷ (i 0xf ∷ (c 0x10 ∷ (ready 0 false true ∷ (c 0x70 ∷ (o 0xe0 ∷ (c 0x00 ∷ (a 0 ∷ (a 0 ∷ (a 0x0 ∷ (a 0 ∷ (a 0 ∷ (c 0x30 ∷ (r 0 ∷ (o 0xf ∷ [])))))))))))))))))))) ≡ true
unfolding command width effect_among breaks_not_there breaks_command_unknown breaks_sequence_open breaks_several_luns breaks_no_column_to_change breaks_command_misplaced breaks_address_misplaced breaks_row_outside breaks_lun_busy breaks_queue_clash breaks_input_misplaced breaks_no_sole_driver breaks_data_not_ready breaks_column_outside breaks_cache_read_misplaced breaks_cache_program_misplaced breaks_copyback_misplaced breaks_plane_not_held
lone_program_tells_none = refl

no_program : then_breaks cached ([]) (c 0x15) ≡ Some CommandMisplaced
unfolding command width effect_among breaks_not_there breaks_command_unknown breaks_sequence_open breaks_several_luns breaks_no_column_to_change breaks_command_misplaced breaks_address_misplaced breaks_row_outside breaks_lun_busy breaks_queue_clash breaks_input_misplaced breaks_no_sole_driver breaks_data_not_ready breaks_column_outside breaks_cache_read_misplaced breaks_cache_program_misplaced breaks_copyback_misplaced breaks_plane_not_held
no_program = refl

erase_closed_by_cache : then_breaks cached (c 0x60 ∷ (a 0x0 ∷ (a 0 ∷ (a 0 ∷ [])))) (c 0x15) ≡ Some CommandMisplaced
unfolding command width effect_among breaks_not_there breaks_command_unknown breaks_sequence_open breaks_several_luns breaks_no_column_to_change breaks_command_misplaced breaks_address_misplaced breaks_row_outside breaks_lun_busy breaks_queue_clash breaks_input_misplaced breaks_no_sole_driver breaks_data_not_ready breaks_column_outside breaks_cache_read_misplaced breaks_cache_program_misplaced breaks_copyback_misplaced breaks_plane_not_held
erase_closed_by_cache = refl

other_lun : runs cached_luns (c 0x80 ∷ (a 0 ∷ (a 0 ∷ (a 0x0 ∷ (a 0 ∷ (a 0 ∷ (c 0x15 ∷ (r 0 ∷ (c 0x00 ∷ (a 0 ∷ (a 0 ∷ (a 0x20 ∷ (a 0 ∷ (a 0 ∷ (c 0x30 ∷ (r 1 ∷ (o 0xff ∷ []))))))))))))))))) ≡ true
unfolding command width effect_among breaks_not_there breaks_command_unknown breaks_sequence_open breaks_several_luns breaks_no_column_to_change breaks_command_misplaced breaks_address_misplaced breaks_row_outside breaks_lun_busy breaks_queue_clash breaks_input_misplaced breaks_no_sole_driver breaks_data_not_ready breaks_column_outside breaks_cache_read_misplaced breaks_cache_program_misplaced breaks_copyback_misplaced breaks_plane_not_held
other_lun = refl

identity_of_target : then_breaks cached_luns (c 0x80 ∷ (a 0 ∷ (a 0 ∷ (a 0x20 ∷ (a 0 ∷ (a 0 ∷ (c 0x15 ∷ (r 1 ∷ [])))))))) (c 0x90) ≡ Some CacheProgramMisplaced
unfolding command width effect_among breaks_not_there breaks_command_unknown breaks_sequence_open breaks_several_luns breaks_no_column_to_change breaks_command_misplaced breaks_address_misplaced breaks_row_outside breaks_lun_busy breaks_queue_clash breaks_input_misplaced breaks_no_sole_driver breaks_data_not_ready breaks_column_outside breaks_cache_read_misplaced breaks_cache_program_misplaced breaks_copyback_misplaced breaks_plane_not_held
identity_of_target = refl

ended_by_program : then_breaks cached (c 0x80 ∷ (a 0 ∷ (a 0 ∷ (a 0x0 ∷ (a 0 ∷ (a 0 ∷ (c 0x15 ∷ (r 0 ∷ (c 0x80 ∷ (a 0 ∷ (a 0 ∷ (a 0x1 ∷ (a 0 ∷ (a 0 ∷ (c 0x10 ∷ (r 0 ∷ [])))))))))))))))) (Ard 0 0 false) ≡ Some NotThere
unfolding command width effect_among breaks_not_there breaks_command_unknown breaks_sequence_open breaks_several_luns breaks_no_column_to_change breaks_command_misplaced breaks_address_misplaced breaks_row_outside breaks_lun_busy breaks_queue_clash breaks_input_misplaced breaks_no_sole_driver breaks_data_not_ready breaks_column_outside breaks_cache_read_misplaced breaks_cache_program_misplaced breaks_copyback_misplaced breaks_plane_not_held
ended_by_program = refl

program_behind_array : runs cached (c 0x80 ∷ (a 0 ∷ (a 0 ∷ (a 0x0 ∷ (a 0 ∷ (a 0 ∷ (c 0x15 ∷ (r 0 ∷ (Ard 0 0 false ∷ (c 0x80 ∷ (a 0 ∷ (a 0 ∷ (a 0x1 ∷ (a 0 ∷ (a 0 ∷ (c 0x10 ∷ (r 0 ∷ (c 0x70 ∷ (o 0xe0 ∷ []))))))))))))))))))) ≡ true
unfolding command width effect_among breaks_not_there breaks_command_unknown breaks_sequence_open breaks_several_luns breaks_no_column_to_change breaks_command_misplaced breaks_address_misplaced breaks_row_outside breaks_lun_busy breaks_queue_clash breaks_input_misplaced breaks_no_sole_driver breaks_data_not_ready breaks_column_outside breaks_cache_read_misplaced breaks_cache_program_misplaced breaks_copyback_misplaced breaks_plane_not_held
program_behind_array = refl

planes_before_failed : runs cached_planes (c 0x80 ∷ (a 0 ∷ (a 0 ∷ (a 0x0 ∷ (a 0 ∷ (a 0 ∷ (i 0xf ∷ (c 0x11 ∷ (r 0 ∷ (c 0x80 ∷ (a 0 ∷ (a 0 ∷ (a 0x4 ∷ (a 0 ∷ (a 0 ∷ (i 0x1e ∷ (c 0x15 ∷ (r 0 ∷ (c 0x80 ∷ (a 0 ∷ (a 0 ∷ (a 0x1 ∷ (a 0 ∷ (a 0 ∷ (i 0x2d ∷ (c 0x11 ∷ (r 0 ∷ (c 0x80 ∷ (a 0 ∷ (a 0 ∷ (a 0x5 ∷ (a 0 ∷ (a 0 ∷ (i 0x3c ∷ (c 0x10 ∷ (ready 0 false true ∷ (c 0x00 ∷ (a 0 ∷ (a 0 ∷ (a 0x0 ∷ (a 0 ∷ (a 0 ∷ (c 0x30 ∷ (r 0 ∷ (o 0xff ∷ (c 0x00 ∷ (a 0 ∷ (a 0 ∷ (a 0x4 ∷ (a 0 ∷ (a 0 ∷ (c 0x30 ∷ (r 0 ∷ (o 0xff ∷ (c 0x00 ∷ (a 0 ∷ (a 0 ∷ (a 0x5 ∷ (a 0 ∷ (a 0 ∷ (c 0x30 ∷ (r 0 ∷ (o 0x3c ∷ []))))))))))))))))))))))))))))))))))))))))))))))))))))))))))))))) ≡ true
unfolding command width effect_among breaks_not_there breaks_command_unknown breaks_sequence_open breaks_several_luns breaks_no_column_to_change breaks_command_misplaced breaks_address_misplaced breaks_row_outside breaks_lun_busy breaks_queue_clash breaks_input_misplaced breaks_no_sole_driver breaks_data_not_ready breaks_column_outside breaks_cache_read_misplaced breaks_cache_program_misplaced breaks_copyback_misplaced breaks_plane_not_held
planes_before_failed = refl

column_changed : runs cached (c 0x80 ∷ (a 0 ∷ (a 0 ∷ (a 0x0 ∷ (a 0 ∷ (a 0 ∷ (i 0 ∷ (c 0x85 ∷ (a 0x2 ∷ (a 0x0 ∷ (i 0 ∷ (c 0x15 ∷ (r 0 ∷ (c 0x80 ∷ (a 0 ∷ (a 0 ∷ (a 0x1 ∷ (a 0 ∷ (a 0 ∷ (i 0 ∷ [])))))))))))))))))))) ≡ true
unfolding command width effect_among breaks_not_there breaks_command_unknown breaks_sequence_open breaks_several_luns breaks_no_column_to_change breaks_command_misplaced breaks_address_misplaced breaks_row_outside breaks_lun_busy breaks_queue_clash breaks_input_misplaced breaks_no_sole_driver breaks_data_not_ready breaks_column_outside breaks_cache_read_misplaced breaks_cache_program_misplaced breaks_copyback_misplaced breaks_plane_not_held
column_changed = refl

not_declared : then_breaks small (c 0x80 ∷ (a 0 ∷ (a 0 ∷ (a 0x0 ∷ (a 0 ∷ (a 0 ∷ [])))))) (c 0x15) ≡ Some CommandUnknown
unfolding command width effect_among breaks_not_there breaks_command_unknown breaks_sequence_open breaks_several_luns breaks_no_column_to_change breaks_command_misplaced breaks_address_misplaced breaks_row_outside breaks_lun_busy breaks_queue_clash breaks_input_misplaced breaks_no_sole_driver breaks_data_not_ready breaks_column_outside breaks_cache_read_misplaced breaks_cache_program_misplaced breaks_copyback_misplaced breaks_plane_not_held
not_declared = refl

page_failed_in_array : runs cached (c 0x80 ∷ (a 0 ∷ (a 0 ∷ (a 0x0 ∷ (a 0 ∷ (a 0 ∷ (i 0xf ∷ (c 0x15 ∷ (r 0 ∷ (Ard 0 0 true ∷ (c 0x00 ∷ (a 0 ∷ (a 0 ∷ (a 0x0 ∷ (a 0 ∷ (a 0 ∷ (c 0x30 ∷ (r 0 ∷ (o 0xff ∷ []))))))))))))))))))) ≡ true
unfolding command width effect_among breaks_not_there breaks_command_unknown breaks_sequence_open breaks_several_luns breaks_no_column_to_change breaks_command_misplaced breaks_address_misplaced breaks_row_outside breaks_lun_busy breaks_queue_clash breaks_input_misplaced breaks_no_sole_driver breaks_data_not_ready breaks_column_outside breaks_cache_read_misplaced breaks_cache_program_misplaced breaks_copyback_misplaced breaks_plane_not_held
page_failed_in_array = refl

copyback_while_programming : then_breaks cached (c 0x80 ∷ (a 0 ∷ (a 0 ∷ (a 0x0 ∷ (a 0 ∷ (a 0 ∷ (c 0x15 ∷ (r 0 ∷ (c 0x85 ∷ (a 0 ∷ (a 0 ∷ (a 0x8 ∷ (a 0 ∷ []))))))))))))) (a 0) ≡ Some CacheProgramMisplaced
unfolding command width effect_among breaks_not_there breaks_command_unknown breaks_sequence_open breaks_several_luns breaks_no_column_to_change breaks_command_misplaced breaks_address_misplaced breaks_row_outside breaks_lun_busy breaks_queue_clash breaks_input_misplaced breaks_no_sole_driver breaks_data_not_ready breaks_column_outside breaks_cache_read_misplaced breaks_cache_program_misplaced breaks_copyback_misplaced breaks_plane_not_held
copyback_while_programming = refl

plane_selected_while_programming : then_breaks cached (c 0x80 ∷ (a 0 ∷ (a 0 ∷ (a 0x0 ∷ (a 0 ∷ (a 0 ∷ (c 0x15 ∷ (r 0 ∷ (c 0x06 ∷ (a 0 ∷ (a 0 ∷ (a 0x8 ∷ (a 0 ∷ []))))))))))))) (a 0) ≡ Some CacheProgramMisplaced
unfolding command width effect_among breaks_not_there breaks_command_unknown breaks_sequence_open breaks_several_luns breaks_no_column_to_change breaks_command_misplaced breaks_address_misplaced breaks_row_outside breaks_lun_busy breaks_queue_clash breaks_input_misplaced breaks_no_sole_driver breaks_data_not_ready breaks_column_outside breaks_cache_read_misplaced breaks_cache_program_misplaced breaks_copyback_misplaced breaks_plane_not_held
plane_selected_while_programming = refl

failure_amid_planes : runs cached_planes (c 0x80 ∷ (a 0 ∷ (a 0 ∷ (a 0x0 ∷ (a 0 ∷ (a 0 ∷ (c 0x15 ∷ (r 0 ∷ (c 0x80 ∷ (a 0 ∷ (a 0 ∷ (a 0x2 ∷ (a 0 ∷ (a 0 ∷ (c 0x11 ∷ (r 0 ∷ (c 0x70 ∷ (o 0xc0 ∷ (Ard 0 0 true ∷ (c 0x70 ∷ (o 0xe0 ∷ (c 0x80 ∷ (a 0 ∷ (a 0 ∷ (a 0x6 ∷ (a 0 ∷ (a 0 ∷ (c 0x10 ∷ (r 0 ∷ (c 0x70 ∷ (o 0xe2 ∷ []))))))))))))))))))))))))))))))) ≡ true
unfolding command width effect_among breaks_not_there breaks_command_unknown breaks_sequence_open breaks_several_luns breaks_no_column_to_change breaks_command_misplaced breaks_address_misplaced breaks_row_outside breaks_lun_busy breaks_queue_clash breaks_input_misplaced breaks_no_sole_driver breaks_data_not_ready breaks_column_outside breaks_cache_read_misplaced breaks_cache_program_misplaced breaks_copyback_misplaced breaks_plane_not_held
failure_amid_planes = refl

copyback_closed_by_cache : then_breaks cached (c 0x00 ∷ (a 0 ∷ (a 0 ∷ (a 0x0 ∷ (a 0 ∷ (a 0 ∷ (c 0x35 ∷ (r 0 ∷ (c 0x85 ∷ (a 0 ∷ (a 0 ∷ (a 0x8 ∷ (a 0 ∷ (a 0 ∷ [])))))))))))))) (c 0x15) ≡ Some CopybackMisplaced
unfolding command width effect_among breaks_not_there breaks_command_unknown breaks_sequence_open breaks_several_luns breaks_no_column_to_change breaks_command_misplaced breaks_address_misplaced breaks_row_outside breaks_lun_busy breaks_queue_clash breaks_input_misplaced breaks_no_sole_driver breaks_data_not_ready breaks_column_outside breaks_cache_read_misplaced breaks_cache_program_misplaced breaks_copyback_misplaced breaks_plane_not_held
copyback_closed_by_cache = refl

read_of_other_block : then_breaks cached (c 0x80 ∷ (a 0 ∷ (a 0 ∷ (a 0x0 ∷ (a 0 ∷ (a 0 ∷ (c 0x15 ∷ (r 0 ∷ (c 0x00 ∷ (a 0 ∷ (a 0 ∷ (a 0x4 ∷ (a 0 ∷ []))))))))))))) (a 0) ≡ Some CacheProgramMisplaced
unfolding command width effect_among breaks_not_there breaks_command_unknown breaks_sequence_open breaks_several_luns breaks_no_column_to_change breaks_command_misplaced breaks_address_misplaced breaks_row_outside breaks_lun_busy breaks_queue_clash breaks_input_misplaced breaks_no_sole_driver breaks_data_not_ready breaks_column_outside breaks_cache_read_misplaced breaks_cache_program_misplaced breaks_copyback_misplaced breaks_plane_not_held
read_of_other_block = refl
