-- Programs that are accepted, computed by the definitions; so they are safe. And some that aren't accepted.
use Rattle.std.proofs.Common.{◌≡◌, true, false, refl, List, [], ◌∷◌, None, arith}
use Rattle.micro_word.specs.declared.word.Word.{Word}
use Rattle.micro_word.specs.declared.word.Word.TheVariants.{End, Command, Address, Get, Put, Row, Plane, Wait, Yield, RowAdd}
use Rattle.onfi_cycle.specs.Command.{command}
use Rattle.micro_program.specs.Unsafe.{one_lun}
use Rattle.micro_program.specs.Lines.{unrolled}
use Rattle.micro_claims.specs.State.{first_state, bounds_of}
use Rattle.micro_claims.specs.Reasons.{reason_against, breaks_cycle_forbidden, breaks_address_unaligned, breaks_handover_in_sequence, breaks_buffer_passed, breaks_row_or_plane_outside, breaks_column_too_large, breaks_no_status, breaks_ends_too_soon, breaks_over_budget, breaks_command_not_allowed}
use Rattle.micro_claims.specs.Accepts.{accepts, state_after}
use Rattle.micro_claims.specs.SafePrograms.{two_luns, some_text, read_words, handing_words, program_words, column_words, checked_words, parts_words, planes_words, blocks_words, cache_words, identity_words, identities_words, features_words, lun_reset_words, resets_words, plane_read_words, selecting_words, one_wide_lun, two_wide_luns, two_wide_planes, one_lun_with_cache, with_rows, SomeAreSafe, copy_words, copies_words, two_cached_planes, cached_program_words, cached_pages_words, cached_group_words}
use Rattle.micro_claims.proofs.AcceptedLines.{accepted_is_safe}

read_is : accepts one_lun (bounds_of (some_text 528 536 read_words)) None first_state (unrolled read_words) ≡ true
unfolding command unrolled state_after reason_against breaks_cycle_forbidden breaks_address_unaligned breaks_handover_in_sequence breaks_buffer_passed breaks_row_or_plane_outside breaks_column_too_large breaks_no_status breaks_ends_too_soon breaks_over_budget breaks_command_not_allowed
read_is = refl

read_among_others_is : accepts two_luns (bounds_of (some_text 528 536 read_words)) None first_state (unrolled read_words) ≡ true
unfolding command unrolled state_after reason_against breaks_cycle_forbidden breaks_address_unaligned breaks_handover_in_sequence breaks_buffer_passed breaks_row_or_plane_outside breaks_column_too_large breaks_no_status breaks_ends_too_soon breaks_over_budget breaks_command_not_allowed
read_among_others_is = refl

handing_is : accepts one_lun (bounds_of (some_text 528 538 handing_words)) None first_state (unrolled handing_words) ≡ true
unfolding command unrolled state_after reason_against breaks_cycle_forbidden breaks_address_unaligned breaks_handover_in_sequence breaks_buffer_passed breaks_row_or_plane_outside breaks_column_too_large breaks_no_status breaks_ends_too_soon breaks_over_budget breaks_command_not_allowed
handing_is = refl

handing_among_others_is : accepts two_luns (bounds_of (some_text 528 541 handing_words)) None first_state (unrolled handing_words) ≡ true
unfolding command unrolled state_after reason_against breaks_cycle_forbidden breaks_address_unaligned breaks_handover_in_sequence breaks_buffer_passed breaks_row_or_plane_outside breaks_column_too_large breaks_no_status breaks_ends_too_soon breaks_over_budget breaks_command_not_allowed
handing_among_others_is = refl

program_is : accepts one_lun (bounds_of (some_text 100 127 program_words)) None first_state (unrolled program_words) ≡ true
unfolding command unrolled state_after reason_against breaks_cycle_forbidden breaks_address_unaligned breaks_handover_in_sequence breaks_buffer_passed breaks_row_or_plane_outside breaks_column_too_large breaks_no_status breaks_ends_too_soon breaks_over_budget breaks_command_not_allowed
program_is = refl

program_among_others_is : accepts two_luns (bounds_of (some_text 100 127 program_words)) None first_state (unrolled program_words) ≡ true
unfolding command unrolled state_after reason_against breaks_cycle_forbidden breaks_address_unaligned breaks_handover_in_sequence breaks_buffer_passed breaks_row_or_plane_outside breaks_column_too_large breaks_no_status breaks_ends_too_soon breaks_over_budget breaks_command_not_allowed
program_among_others_is = refl

column_is : accepts one_lun (bounds_of (some_text 26 38 column_words)) None first_state (unrolled column_words) ≡ true
unfolding command unrolled state_after reason_against breaks_cycle_forbidden breaks_address_unaligned breaks_handover_in_sequence breaks_buffer_passed breaks_row_or_plane_outside breaks_column_too_large breaks_no_status breaks_ends_too_soon breaks_over_budget breaks_command_not_allowed
column_is = refl

column_among_others_is : accepts two_luns (bounds_of (some_text 26 38 column_words)) None first_state (unrolled column_words) ≡ true
unfolding command unrolled state_after reason_against breaks_cycle_forbidden breaks_address_unaligned breaks_handover_in_sequence breaks_buffer_passed breaks_row_or_plane_outside breaks_column_too_large breaks_no_status breaks_ends_too_soon breaks_over_budget breaks_command_not_allowed
column_among_others_is = refl

checked_is : accepts two_luns (bounds_of (some_text 0 5 checked_words)) None first_state (unrolled checked_words) ≡ true
unfolding command unrolled state_after reason_against breaks_cycle_forbidden breaks_address_unaligned breaks_handover_in_sequence breaks_buffer_passed breaks_row_or_plane_outside breaks_column_too_large breaks_no_status breaks_ends_too_soon breaks_over_budget breaks_command_not_allowed
checked_is = refl

parts_is : accepts two_luns (bounds_of (some_text 8 18 parts_words)) None first_state (unrolled parts_words) ≡ true
unfolding command unrolled state_after reason_against breaks_cycle_forbidden breaks_address_unaligned breaks_handover_in_sequence breaks_buffer_passed breaks_row_or_plane_outside breaks_column_too_large breaks_no_status breaks_ends_too_soon breaks_over_budget breaks_command_not_allowed
parts_is = refl

planes_is : accepts two_luns (bounds_of (some_text 0 10 planes_words)) None first_state (unrolled planes_words) ≡ true
unfolding command unrolled state_after reason_against breaks_cycle_forbidden breaks_address_unaligned breaks_handover_in_sequence breaks_buffer_passed breaks_row_or_plane_outside breaks_column_too_large breaks_no_status breaks_ends_too_soon breaks_over_budget breaks_command_not_allowed
planes_is = refl

blocks_is : accepts two_luns (bounds_of (with_rows 8 0 10 blocks_words)) None first_state (unrolled blocks_words) ≡ true
unfolding command unrolled state_after reason_against breaks_cycle_forbidden breaks_address_unaligned breaks_handover_in_sequence breaks_buffer_passed breaks_row_or_plane_outside breaks_column_too_large breaks_no_status breaks_ends_too_soon breaks_over_budget breaks_command_not_allowed
blocks_is = refl

cached_is : accepts one_lun_with_cache (bounds_of (with_rows 2 1056 1067 cache_words)) None first_state (unrolled cache_words) ≡ true
unfolding command unrolled state_after reason_against breaks_cycle_forbidden breaks_address_unaligned breaks_handover_in_sequence breaks_buffer_passed breaks_row_or_plane_outside breaks_column_too_large breaks_no_status breaks_ends_too_soon breaks_over_budget breaks_command_not_allowed
cached_is = refl

identity_is : accepts one_lun (bounds_of (some_text 772 778 identity_words)) None first_state (unrolled identity_words) ≡ true
unfolding command unrolled state_after reason_against breaks_cycle_forbidden breaks_address_unaligned breaks_handover_in_sequence breaks_buffer_passed breaks_row_or_plane_outside breaks_column_too_large breaks_no_status breaks_ends_too_soon breaks_over_budget breaks_command_not_allowed
identity_is = refl

identities_is : accepts one_wide_lun (bounds_of (some_text 526 533 identities_words)) None first_state (unrolled identities_words) ≡ true
unfolding command unrolled state_after reason_against breaks_cycle_forbidden breaks_address_unaligned breaks_handover_in_sequence breaks_buffer_passed breaks_row_or_plane_outside breaks_column_too_large breaks_no_status breaks_ends_too_soon breaks_over_budget breaks_command_not_allowed
identities_is = refl

features_is : accepts one_wide_lun (bounds_of (some_text 8 13 features_words)) None first_state (unrolled features_words) ≡ true
unfolding command unrolled state_after reason_against breaks_cycle_forbidden breaks_address_unaligned breaks_handover_in_sequence breaks_buffer_passed breaks_row_or_plane_outside breaks_column_too_large breaks_no_status breaks_ends_too_soon breaks_over_budget breaks_command_not_allowed
features_is = refl

lun_reset_is : accepts one_wide_lun (bounds_of (some_text 0 9 lun_reset_words)) None first_state (unrolled lun_reset_words) ≡ true
unfolding command unrolled state_after reason_against breaks_cycle_forbidden breaks_address_unaligned breaks_handover_in_sequence breaks_buffer_passed breaks_row_or_plane_outside breaks_column_too_large breaks_no_status breaks_ends_too_soon breaks_over_budget breaks_command_not_allowed
lun_reset_is = refl

lun_reset_among_others_is : accepts two_wide_luns (bounds_of (some_text 0 9 lun_reset_words)) None first_state (unrolled lun_reset_words) ≡ true
unfolding command unrolled state_after reason_against breaks_cycle_forbidden breaks_address_unaligned breaks_handover_in_sequence breaks_buffer_passed breaks_row_or_plane_outside breaks_column_too_large breaks_no_status breaks_ends_too_soon breaks_over_budget breaks_command_not_allowed
lun_reset_among_others_is = refl

resets_is : accepts one_wide_lun (bounds_of (some_text 4 12 resets_words)) None first_state (unrolled resets_words) ≡ true
unfolding command unrolled state_after reason_against breaks_cycle_forbidden breaks_address_unaligned breaks_handover_in_sequence breaks_buffer_passed breaks_row_or_plane_outside breaks_column_too_large breaks_no_status breaks_ends_too_soon breaks_over_budget breaks_command_not_allowed
resets_is = refl

plane_read_is : accepts two_wide_planes (bounds_of (some_text 8 36 plane_read_words)) None first_state (unrolled plane_read_words) ≡ true
unfolding command unrolled state_after reason_against breaks_cycle_forbidden breaks_address_unaligned breaks_handover_in_sequence breaks_buffer_passed breaks_row_or_plane_outside breaks_column_too_large breaks_no_status breaks_ends_too_soon breaks_over_budget breaks_command_not_allowed
plane_read_is = refl

selecting_is : accepts one_wide_lun (bounds_of (some_text 4 18 selecting_words)) None first_state (unrolled selecting_words) ≡ true
unfolding command unrolled state_after reason_against breaks_cycle_forbidden breaks_address_unaligned breaks_handover_in_sequence breaks_buffer_passed breaks_row_or_plane_outside breaks_column_too_large breaks_no_status breaks_ends_too_soon breaks_over_budget breaks_command_not_allowed
selecting_is = refl

selecting_among_others_is : accepts two_wide_luns (bounds_of (some_text 4 18 selecting_words)) None first_state (unrolled selecting_words) ≡ true
unfolding command unrolled state_after reason_against breaks_cycle_forbidden breaks_address_unaligned breaks_handover_in_sequence breaks_buffer_passed breaks_row_or_plane_outside breaks_column_too_large breaks_no_status breaks_ends_too_soon breaks_over_budget breaks_command_not_allowed
selecting_among_others_is = refl

-- of two planes none is selected behind the 30, two reads of one plane don't go together, and a read without a 30 stays queued
unselected : List Word
unselected = Command 0x00 ∷ (Address 0 5 ∷ (Command 0x32 ∷ (Wait ∷ (Plane 1 ∷ (Command 0x00 ∷ (Address 0 5 ∷ (Command 0x30 ∷ (Wait ∷ (Command 0x00 ∷ (Get 4 ∷ (End 0 ∷ [])))))))))))

none_selected : accepts two_wide_planes (bounds_of (some_text 4 19 unselected)) None first_state (unrolled unselected) ≡ false
unfolding command unrolled state_after reason_against breaks_cycle_forbidden breaks_address_unaligned breaks_handover_in_sequence breaks_buffer_passed breaks_row_or_plane_outside breaks_column_too_large breaks_no_status breaks_ends_too_soon breaks_over_budget breaks_command_not_allowed unselected
none_selected = refl

twice : List Word
twice = Command 0x00 ∷ (Address 0 5 ∷ (Command 0x32 ∷ (Wait ∷ (Command 0x00 ∷ (Address 0 5 ∷ (Command 0x30 ∷ (Wait ∷ (End 0 ∷ []))))))))

one_plane_twice : accepts two_wide_planes (bounds_of (some_text 0 14 twice)) None first_state (unrolled twice) ≡ false
unfolding command unrolled state_after reason_against breaks_cycle_forbidden breaks_address_unaligned breaks_handover_in_sequence breaks_buffer_passed breaks_row_or_plane_outside breaks_column_too_large breaks_no_status breaks_ends_too_soon breaks_over_budget breaks_command_not_allowed twice
one_plane_twice = refl

waiting : List Word
waiting = Command 0x00 ∷ (Address 0 5 ∷ (Command 0x32 ∷ (Wait ∷ (End 0 ∷ []))))

still_queued : accepts two_wide_planes (bounds_of (some_text 0 7 waiting)) None first_state (unrolled waiting) ≡ false
unfolding command unrolled state_after reason_against breaks_cycle_forbidden breaks_address_unaligned breaks_handover_in_sequence breaks_buffer_passed breaks_row_or_plane_outside breaks_column_too_large breaks_no_status breaks_ends_too_soon breaks_over_budget breaks_command_not_allowed waiting
still_queued = refl

-- the base profile has none of it, and a fifth byte of a feature is too many
features_of_base : accepts one_lun (bounds_of (some_text 8 13 features_words)) None first_state (unrolled features_words) ≡ false
unfolding command unrolled state_after reason_against breaks_cycle_forbidden breaks_address_unaligned breaks_handover_in_sequence breaks_buffer_passed breaks_row_or_plane_outside breaks_column_too_large breaks_no_status breaks_ends_too_soon breaks_over_budget breaks_command_not_allowed
features_of_base = refl

five : List Word
five = Command 0xef ∷ (Address 0 1 ∷ (Put 5 ∷ (Wait ∷ (End 0 ∷ []))))

fifth_byte : accepts one_wide_lun (bounds_of (some_text 5 7 five)) None first_state (unrolled five) ≡ false
unfolding command unrolled state_after reason_against breaks_cycle_forbidden breaks_address_unaligned breaks_handover_in_sequence breaks_buffer_passed breaks_row_or_plane_outside breaks_column_too_large breaks_no_status breaks_ends_too_soon breaks_over_budget breaks_command_not_allowed five
fifth_byte = refl

-- one byte of buffer too few, one cycle of budget too few, data before the status was asked for again
short_buffer : accepts one_lun (bounds_of (some_text 527 536 read_words)) None first_state (unrolled read_words) ≡ false
unfolding command unrolled state_after reason_against breaks_cycle_forbidden breaks_address_unaligned breaks_handover_in_sequence breaks_buffer_passed breaks_row_or_plane_outside breaks_column_too_large breaks_no_status breaks_ends_too_soon breaks_over_budget breaks_command_not_allowed
short_buffer = refl

short_budget : accepts one_lun (bounds_of (some_text 528 535 read_words)) None first_state (unrolled read_words) ≡ false
unfolding command unrolled state_after reason_against breaks_cycle_forbidden breaks_address_unaligned breaks_handover_in_sequence breaks_buffer_passed breaks_row_or_plane_outside breaks_column_too_large breaks_no_status breaks_ends_too_soon breaks_over_budget breaks_command_not_allowed
short_budget = refl

unasked : List Word
unasked = Command 0x00 ∷ (Address 0 5 ∷ (Command 0x30 ∷ (Wait ∷ (Yield ∷ (Command 0x00 ∷ (Get 528 ∷ (End 0 ∷ [])))))))

unasked_alone : accepts one_lun (bounds_of (some_text 528 536 unasked)) None first_state (unrolled unasked) ≡ true
unfolding command unrolled state_after reason_against breaks_cycle_forbidden breaks_address_unaligned breaks_handover_in_sequence breaks_buffer_passed breaks_row_or_plane_outside breaks_column_too_large breaks_no_status breaks_ends_too_soon breaks_over_budget breaks_command_not_allowed unasked
unasked_alone = refl

unasked_among_others : accepts two_luns (bounds_of (some_text 528 536 unasked)) None first_state (unrolled unasked) ≡ false
unfolding command unrolled state_after reason_against breaks_cycle_forbidden breaks_address_unaligned breaks_handover_in_sequence breaks_buffer_passed breaks_row_or_plane_outside breaks_column_too_large breaks_no_status breaks_ends_too_soon breaks_over_budget breaks_command_not_allowed unasked
unasked_among_others = refl

copied_is : accepts one_wide_lun (bounds_of (with_rows 3 0 14 copy_words)) None first_state (unrolled copy_words) ≡ true
unfolding command unrolled state_after reason_against breaks_cycle_forbidden breaks_address_unaligned breaks_handover_in_sequence breaks_buffer_passed breaks_row_or_plane_outside breaks_column_too_large breaks_no_status breaks_ends_too_soon breaks_over_budget breaks_command_not_allowed
copied_is = refl

copied_among_others_is : accepts two_wide_luns (bounds_of (with_rows 3 0 14 copy_words)) None first_state (unrolled copy_words) ≡ true
unfolding command unrolled state_after reason_against breaks_cycle_forbidden breaks_address_unaligned breaks_handover_in_sequence breaks_buffer_passed breaks_row_or_plane_outside breaks_column_too_large breaks_no_status breaks_ends_too_soon breaks_over_budget breaks_command_not_allowed
copied_among_others_is = refl

copied_in_planes_is : accepts two_wide_planes (bounds_of (with_rows 3 1 29 copies_words)) None first_state (unrolled copies_words) ≡ true
unfolding command unrolled state_after reason_against breaks_cycle_forbidden breaks_address_unaligned breaks_handover_in_sequence breaks_buffer_passed breaks_row_or_plane_outside breaks_column_too_large breaks_no_status breaks_ends_too_soon breaks_over_budget breaks_command_not_allowed
copied_in_planes_is = refl

-- a copy from an even page to an odd one, a copy of nothing, and a program of a page amid a group of copies
odd_words : List Word
odd_words = Command 0x00 ∷ (Address 0 5 ∷ (Command 0x35 ∷ (Wait ∷ (RowAdd 1 ∷ (Command 0x85 ∷ (Address 0 5 ∷ (Command 0x10 ∷ (Wait ∷ (End 0 ∷ [])))))))))

odd_copy : accepts one_wide_lun (bounds_of (with_rows 3 0 14 odd_words)) None first_state (unrolled odd_words) ≡ false
unfolding command unrolled state_after reason_against breaks_cycle_forbidden breaks_address_unaligned breaks_handover_in_sequence breaks_buffer_passed breaks_row_or_plane_outside breaks_column_too_large breaks_no_status breaks_ends_too_soon breaks_over_budget breaks_command_not_allowed odd_words
odd_copy = refl

nothing_words : List Word
nothing_words = Command 0x85 ∷ (Address 0 5 ∷ (Command 0x10 ∷ (Wait ∷ (End 0 ∷ []))))

nothing_copied : accepts one_wide_lun (bounds_of (with_rows 3 0 14 nothing_words)) None first_state (unrolled nothing_words) ≡ false
unfolding command unrolled state_after reason_against breaks_cycle_forbidden breaks_address_unaligned breaks_handover_in_sequence breaks_buffer_passed breaks_row_or_plane_outside breaks_column_too_large breaks_no_status breaks_ends_too_soon breaks_over_budget breaks_command_not_allowed nothing_words
nothing_copied = refl

amid_words : List Word
amid_words =
    Command 0x00 ∷ (Address 0 5 ∷ (Command 0x35 ∷ (Wait ∷ (Command 0x85 ∷ (Address 0 5 ∷ (Command 0x11 ∷ (Wait ∷ (
    Plane 1 ∷ (Command 0x80 ∷ (Address 0 5 ∷ (Put 1 ∷ (Command 0x10 ∷ (Wait ∷ (End 0 ∷ []))))))))))))))

amid_copies : accepts two_wide_planes (bounds_of (with_rows 3 1 29 amid_words)) None first_state (unrolled amid_words) ≡ false
unfolding command unrolled state_after reason_against breaks_cycle_forbidden breaks_address_unaligned breaks_handover_in_sequence breaks_buffer_passed breaks_row_or_plane_outside breaks_column_too_large breaks_no_status breaks_ends_too_soon breaks_over_budget breaks_command_not_allowed amid_words
amid_copies = refl

cached_program_is : accepts one_wide_lun (bounds_of (with_rows 2 2 16 cached_program_words)) None first_state (unrolled cached_program_words) ≡ true
unfolding command unrolled state_after reason_against breaks_cycle_forbidden breaks_address_unaligned breaks_handover_in_sequence breaks_buffer_passed breaks_row_or_plane_outside breaks_column_too_large breaks_no_status breaks_ends_too_soon breaks_over_budget breaks_command_not_allowed
cached_program_is = refl

cached_program_among_others_is : accepts two_wide_luns (bounds_of (with_rows 2 2 16 cached_program_words)) None first_state (unrolled cached_program_words) ≡ true
unfolding command unrolled state_after reason_against breaks_cycle_forbidden breaks_address_unaligned breaks_handover_in_sequence breaks_buffer_passed breaks_row_or_plane_outside breaks_column_too_large breaks_no_status breaks_ends_too_soon breaks_over_budget breaks_command_not_allowed
cached_program_among_others_is = refl

cached_pages_is : accepts one_wide_lun (bounds_of (with_rows 4 4 32 cached_pages_words)) None first_state (unrolled cached_pages_words) ≡ true
unfolding command unrolled state_after reason_against breaks_cycle_forbidden breaks_address_unaligned breaks_handover_in_sequence breaks_buffer_passed breaks_row_or_plane_outside breaks_column_too_large breaks_no_status breaks_ends_too_soon breaks_over_budget breaks_command_not_allowed
cached_pages_is = refl

cached_group_is : accepts two_cached_planes (bounds_of (with_rows 2 3 24 cached_group_words)) None first_state (unrolled cached_group_words) ≡ true
unfolding command unrolled state_after reason_against breaks_cycle_forbidden breaks_address_unaligned breaks_handover_in_sequence breaks_buffer_passed breaks_row_or_plane_outside breaks_column_too_large breaks_no_status breaks_ends_too_soon breaks_over_budget breaks_command_not_allowed
cached_group_is = refl

-- an end while the array may program, a read then, a group where the chip caches none, a copy, and a cache program of the base profile
ends_words : List Word
ends_words = Command 0x80 ∷ (Address 0 5 ∷ (Put 1 ∷ (Command 0x15 ∷ (Wait ∷ (End 0 ∷ [])))))

ends_programming : accepts one_wide_lun (bounds_of (with_rows 1 1 8 ends_words)) None first_state (unrolled ends_words) ≡ false
unfolding command unrolled state_after reason_against breaks_cycle_forbidden breaks_address_unaligned breaks_handover_in_sequence breaks_buffer_passed breaks_row_or_plane_outside breaks_column_too_large breaks_no_status breaks_ends_too_soon breaks_over_budget breaks_command_not_allowed ends_words
ends_programming = refl

reads_words : List Word
reads_words = Command 0x80 ∷ (Address 0 5 ∷ (Put 1 ∷ (Command 0x15 ∷ (Wait ∷ (Command 0x00 ∷ (Address 0 5 ∷ (Command 0x30 ∷ (Wait ∷ (End 0 ∷ [])))))))))

reads_programming : accepts one_wide_lun (bounds_of (with_rows 1 1 15 reads_words)) None first_state (unrolled reads_words) ≡ false
unfolding command unrolled state_after reason_against breaks_cycle_forbidden breaks_address_unaligned breaks_handover_in_sequence breaks_buffer_passed breaks_row_or_plane_outside breaks_column_too_large breaks_no_status breaks_ends_too_soon breaks_over_budget breaks_command_not_allowed reads_words
reads_programming = refl

uncached_group : accepts two_wide_planes (bounds_of (with_rows 2 3 24 cached_group_words)) None first_state (unrolled cached_group_words) ≡ false
unfolding command unrolled state_after reason_against breaks_cycle_forbidden breaks_address_unaligned breaks_handover_in_sequence breaks_buffer_passed breaks_row_or_plane_outside breaks_column_too_large breaks_no_status breaks_ends_too_soon breaks_over_budget breaks_command_not_allowed
uncached_group = refl

copied_words : List Word
copied_words = Command 0x00 ∷ (Address 0 5 ∷ (Command 0x35 ∷ (Wait ∷ (Row 4 ∷ (Command 0x85 ∷ (Address 0 5 ∷ (Command 0x15 ∷ (Wait ∷ (Row 0 ∷ (Command 0x80 ∷ (Address 0 5 ∷ (Command 0x10 ∷ (Wait ∷ (End 0 ∷ []))))))))))))))

cached_copy : accepts one_wide_lun (bounds_of (with_rows 5 0 21 copied_words)) None first_state (unrolled copied_words) ≡ false
unfolding command unrolled state_after reason_against breaks_cycle_forbidden breaks_address_unaligned breaks_handover_in_sequence breaks_buffer_passed breaks_row_or_plane_outside breaks_column_too_large breaks_no_status breaks_ends_too_soon breaks_over_budget breaks_command_not_allowed copied_words
cached_copy = refl

cached_of_base : accepts one_lun (bounds_of (with_rows 2 2 16 cached_program_words)) None first_state (unrolled cached_program_words) ≡ false
unfolding command unrolled state_after reason_against breaks_cycle_forbidden breaks_address_unaligned breaks_handover_in_sequence breaks_buffer_passed breaks_row_or_plane_outside breaks_column_too_large breaks_no_status breaks_ends_too_soon breaks_over_budget breaks_command_not_allowed
cached_of_base = refl

pub some_are_safe : SomeAreSafe
some_are_safe =
    record {
      read = accepted_is_safe (some_text 528 536 read_words) one_lun (omega arith) read_is;
      read_among_others = accepted_is_safe (some_text 528 536 read_words) two_luns (omega arith) read_among_others_is;
      handing = accepted_is_safe (some_text 528 538 handing_words) one_lun (omega arith) handing_is;
      handing_among_others = accepted_is_safe (some_text 528 541 handing_words) two_luns (omega arith) handing_among_others_is;
      program = accepted_is_safe (some_text 100 127 program_words) one_lun (omega arith) program_is;
      program_among_others = accepted_is_safe (some_text 100 127 program_words) two_luns (omega arith) program_among_others_is;
      column = accepted_is_safe (some_text 26 38 column_words) one_lun (omega arith) column_is;
      column_among_others = accepted_is_safe (some_text 26 38 column_words) two_luns (omega arith) column_among_others_is;
      checked = accepted_is_safe (some_text 0 5 checked_words) two_luns (omega arith) checked_is;
      parts = accepted_is_safe (some_text 8 18 parts_words) two_luns (omega arith) parts_is;
      planes = accepted_is_safe (some_text 0 10 planes_words) two_luns (omega arith) planes_is;
      blocks = accepted_is_safe (with_rows 8 0 10 blocks_words) two_luns (omega arith) blocks_is;
      cached = accepted_is_safe (with_rows 2 1056 1067 cache_words) one_lun_with_cache (omega arith) cached_is;
      identity = accepted_is_safe (some_text 772 778 identity_words) one_lun (omega arith) identity_is;
      identities = accepted_is_safe (some_text 526 533 identities_words) one_wide_lun (omega arith) identities_is;
      features = accepted_is_safe (some_text 8 13 features_words) one_wide_lun (omega arith) features_is;
      lun_reset = accepted_is_safe (some_text 0 9 lun_reset_words) one_wide_lun (omega arith) lun_reset_is;
      lun_reset_among_others = accepted_is_safe (some_text 0 9 lun_reset_words) two_wide_luns (omega arith) lun_reset_among_others_is;
      resets = accepted_is_safe (some_text 4 12 resets_words) one_wide_lun (omega arith) resets_is;
      plane_read = accepted_is_safe (some_text 8 36 plane_read_words) two_wide_planes (omega arith) plane_read_is;
      selecting = accepted_is_safe (some_text 4 18 selecting_words) one_wide_lun (omega arith) selecting_is;
      selecting_among_others = accepted_is_safe (some_text 4 18 selecting_words) two_wide_luns (omega arith) selecting_among_others_is;
      copied = accepted_is_safe (with_rows 3 0 14 copy_words) one_wide_lun (omega arith) copied_is;
      copied_among_others = accepted_is_safe (with_rows 3 0 14 copy_words) two_wide_luns (omega arith) copied_among_others_is;
      copied_in_planes = accepted_is_safe (with_rows 3 1 29 copies_words) two_wide_planes (omega arith) copied_in_planes_is;
      cached_program = accepted_is_safe (with_rows 2 2 16 cached_program_words) one_wide_lun (omega arith) cached_program_is;
      cached_program_among_others = accepted_is_safe (with_rows 2 2 16 cached_program_words) two_wide_luns (omega arith) cached_program_among_others_is;
      cached_pages = accepted_is_safe (with_rows 4 4 32 cached_pages_words) one_wide_lun (omega arith) cached_pages_is;
      cached_group = accepted_is_safe (with_rows 2 3 24 cached_group_words) two_cached_planes (omega arith) cached_group_is;
    }
