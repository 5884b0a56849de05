-- A certificate of a text with a loop, checked by the definitions.
use Rattle.std.proofs.Common.{◌≡◌, ℕ, true, false, refl, List, [], ◌∷◌, Option, Some}
use Rattle.onfi_cycle.specs.Command.{command}
use Rattle.micro_word.specs.declared.word.Word.{Word}
use Rattle.micro_word.specs.declared.word.Word.TheVariants.{Command, Address, Wait, RowAdd, Row}
use Rattle.micro_claims.specs.Spans.{Span}
use Rattle.micro_claims.specs.declared.state.State.{State}
use Rattle.micro_claims.specs.State.{first_state, bounds_of}
use Rattle.micro_claims.specs.Reasons.{reason_against, breaks_cycle_forbidden, breaks_address_unaligned, breaks_handover_in_sequence, breaks_buffer_passed, breaks_row_or_plane_outside, breaks_column_too_large, breaks_no_status, breaks_ends_too_soon, breaks_over_budget, breaks_command_not_allowed}
use Rattle.micro_claims.specs.Accepts.{state_after}
use Rattle.micro_claims.specs.SafePrograms.{two_luns, with_rows, blocks_words}
use Rattle.micro_claims.specs.Order.{no_growth, is_state_within, state_at_head, state_at_heads, state_after_turns, state_step, machine}
use Rattle.micro_claims.specs.Certificate.{is_certified}

abbrev up_to : ℕ → Span
up_to n = record { lo = 0; hi = Some n; grown = Some no_growth }

-- where a turn begins: the index is at most 4 (the second turn), the cost at most 5
abbrev head : ℕ → State
head cost = record (state_at_head first_state) { registers = record (state_at_head first_state).registers { index = up_to 4; cost = up_to cost } }

abbrev after : State → Word → State
after s word = state_after two_luns s word

abbrev turn : State → List (Option State)
turn h =
    let a = after h (Command 0x60) in
    let b = after a (Address 2 3) in
    let c = after b (Command 0xd0) in
    let d = after c Wait in
    let e = after d (RowAdd 4) in
    let f = state_after_turns first_state e 2 in
    Some first_state ∷ (Some h ∷ (Some a ∷ (Some b ∷ (Some c ∷ (Some d ∷ (Some e ∷ (Some f ∷ (Some (after f (Row 0)) ∷ []))))))))

pub blocks_certified : is_certified (machine two_luns (bounds_of (with_rows 8 0 10 blocks_words))) blocks_words (turn (head 5)) ≡ true
unfolding command state_after reason_against breaks_cycle_forbidden breaks_address_unaligned breaks_handover_in_sequence breaks_buffer_passed breaks_row_or_plane_outside breaks_column_too_large breaks_no_status breaks_ends_too_soon breaks_over_budget breaks_command_not_allowed is_state_within state_at_head state_at_heads state_after_turns state_step
blocks_certified = refl

-- with a budget one short, or a head that forgets the second turn's cost, they are no certificate
pub short_budget : is_certified (machine two_luns (bounds_of (with_rows 8 0 9 blocks_words))) blocks_words (turn (head 5)) ≡ false
unfolding command state_after reason_against breaks_cycle_forbidden breaks_address_unaligned breaks_handover_in_sequence breaks_buffer_passed breaks_row_or_plane_outside breaks_column_too_large breaks_no_status breaks_ends_too_soon breaks_over_budget breaks_command_not_allowed is_state_within state_at_head state_at_heads state_after_turns state_step
short_budget = refl

pub low_head : is_certified (machine two_luns (bounds_of (with_rows 8 0 10 blocks_words))) blocks_words (turn (head 4)) ≡ false
unfolding command state_after reason_against breaks_cycle_forbidden breaks_address_unaligned breaks_handover_in_sequence breaks_buffer_passed breaks_row_or_plane_outside breaks_column_too_large breaks_no_status breaks_ends_too_soon breaks_over_budget breaks_command_not_allowed is_state_within state_at_head state_at_heads state_after_turns state_step
low_head = refl
