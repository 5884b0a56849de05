-- Programs of erases are accepted, and so safe.
use Rattle.std.proofs.Common.{◌≡◌, ℕ, zero, suc, ◌+◌, ◌-◌, ◌*◌, ◌^◌, ◌≤◌, ◌<◌, ◌==◌, Bool, true, false, nat_le, List, ◌∷◌, Option, Some, None, refl, ap, ◌∙◌, arith, length}
use Rattle.std.proofs.lemmas.Bool.Decides.{nat_tests}
use Rattle.std.specs.Prelude.{nat_lt}
use Rattle.std.proofs.lemmas.Nat.{pow_pos, pow_below}
use Rattle.std.specs.List.{slice_get}
use Rattle.nand_geometry.specs.declared.parts.Parts.{Parts}
use Rattle.nand_geometry.specs.Limits.{planes}
use Rattle.onfi_cycle.specs.Command.{command}
use Rattle.micro_word.specs.declared.word.Word.{Word}
use Rattle.micro_word.specs.declared.word.Word.TheVariants.{Command, Address, Wait}
use Rattle.micro_claims.specs.declared.refusal.Fault.{Fault}
use Rattle.micro_claims.specs.Spans.{greatest_bound}
use Rattle.micro_claims.specs.declared.state.State.{State}
use Rattle.micro_claims.specs.declared.bounds.Bounds.{Bounds}
use Rattle.micro_claims.specs.declared.shown.Shown.{Shown}
use Rattle.micro_claims.specs.declared.cached_page.CachedPage.{CachedPage}
use Rattle.micro_claims.specs.declared.queued_rows.QueuedRows.TheVariants.{NoRows}
use Rattle.micro_claims.specs.declared.last_closer.LastCloser.{LastCloser}
use Rattle.micro_claims.specs.State.{bounds_of, first_registers, first_state, not_cached, no_copies, uncopied, closed, any_but_31, other_closer, may_be_31}
use Rattle.micro_claims.specs.declared.copies.Copies.{Copies}
use Rattle.micro_claims.specs.Planes.{no_planes}
use Rattle.micro_claims.specs.Leaves.{status_shown}
use Rattle.micro_claims.specs.Reasons.{reason_against, breaks_cycle_forbidden, breaks_address_unaligned, breaks_handover_in_sequence, breaks_buffer_passed, breaks_row_or_plane_outside, breaks_column_too_large, breaks_no_status, breaks_ends_too_soon, breaks_over_budget, breaks_command_not_allowed}
use Rattle.micro_claims.specs.Accepts.{state_after}
use Rattle.micro_walk.specs.Shape.{is_end_there, ends, or_fault}
use Rattle.micro_program.specs.Lines.{all_lead_on}
use Rattle.micro_walk.specs.Faults.{walked, fault_within}
use Rattle.micro_walk.specs.Erase.{erase_words, EraseIsSafe, erases, ErasesAreAccepted}
use Rattle.micro_walk.proofs.Walking.{walked_is_safe, straight_fault, straight_shape}

-- nothing is open and the LUN is ready, so many cycles being paid
abbrev at_rest : Bool → LastCloser → Option Shown → CachedPage → Copies → ℕ → State
at_rest polled last shows cached copies n =
    record {
      registers = record first_registers { cost = record { lo = n; hi = Some n; grown = None }; polled = polled };
      target = closed shows;
      lun = record { busy = false; register = None; column = None; queue = NoRows; last = last; cached = cached; held = no_planes; array = no_planes; copies = copies; programming = false };
    }

-- each erase leaves all as it found it, but for five cycles that are paid, and a status that was asked for
erases_walk : (g : Parts) (b : Bounds) (count : ℕ) (polled : Bool) (last : LastCloser) (shows : Option Shown) (cached : CachedPage) (copies : Copies) (n at : ℕ) → nat_le 1 b.rows ≡ true → nat_lt 1 (2 ^ planes g) ≡ true → may_be_31 last ≡ false → b.budget < 2 ^ 32 → n + 5 * count ≤ b.budget → walked g b at (Some (at_rest polled last shows cached copies n)) (erases count) ≡ None
unfolding command reason_against breaks_cycle_forbidden breaks_address_unaligned breaks_handover_in_sequence breaks_buffer_passed breaks_row_or_plane_outside breaks_column_too_large breaks_no_status breaks_ends_too_soon breaks_over_budget breaks_command_not_allowed state_after
erases_walk g b zero polled last shows cached copies n at rows planes calm small h = rw calm refl
erases_walk g b (suc count) polled last shows cached copies n at rows planes calm small h =
    let one : nat_le (n + 1) greatest_bound ≡ true = grind (arith, nat_tests, h, small) in
    let four : nat_le (n + 1 + 3) greatest_bound ≡ true = grind (arith, nat_tests, h, small) in
    let five : nat_le (n + 1 + 3 + 1) greatest_bound ≡ true = grind (arith, nat_tests, h, small) in
    let one_paid : nat_le (n + 1) b.budget ≡ true = grind (arith, nat_tests, h) in
    let four_paid : nat_le (n + 1 + 3) b.budget ≡ true = grind (arith, nat_tests, h) in
    let five_paid : nat_le (n + 1 + 3 + 1) b.budget ≡ true = grind (arith, nat_tests, h) in
    rw (one, four, five, one_paid, four_paid, five_paid, rows, planes, calm) (erases_walk g b count true other_closer status_shown cached no_copies (n + 1 + 3 + 1) (at + 1 + 1 + 1 + 1) rows planes refl small (omega (arith, h)))

-- the last word of a text stays the last behind another one
last_behind : (word other : Word) (words : List Word) → slice_get (word ∷ (other ∷ words)) (length (word ∷ (other ∷ words)) - 1) ≡ slice_get (other ∷ words) (length (other ∷ words) - 1)
last_behind word other words =
    let long : suc (suc (length words)) - 1 ≡ suc (length words) = omega arith in
    let short : suc (length words) - 1 ≡ length words = omega arith in
    rw (long, short) refl

four_before : (a b c d e : Word) (words : List Word) → slice_get (a ∷ (b ∷ (c ∷ (d ∷ (e ∷ words))))) (length (a ∷ (b ∷ (c ∷ (d ∷ (e ∷ words))))) - 1) ≡ slice_get (e ∷ words) (length (e ∷ words) - 1)
four_before a b c d e words = last_behind a b (c ∷ (d ∷ (e ∷ words))) ∙ (last_behind b c (d ∷ (e ∷ words)) ∙ (last_behind c d (e ∷ words) ∙ last_behind d e words))

erases_end : (count : ℕ) → ends (erases count) ≡ true
erases_end zero = refl
erases_end (suc zero) = refl
erases_end (suc (suc count)) =
    ap is_end_there (four_before (Command 0x60) (Address 2 3) (Command 0xd0) Wait (Command 0x60) (Address 2 3 ∷ (Command 0xd0 ∷ (Wait ∷ erases count)))) ∙ erases_end (suc count)

not_none : (n : ℕ) → (suc n == 0) ≡ false
not_none n = grind (arith, nat_tests)

some_words : (count : ℕ) → (length (erases count) == 0) ≡ false
some_words zero = refl
some_words (suc count) = not_none _

some_planes : (g : Parts) → nat_lt 1 (2 ^ planes g) ≡ true
some_planes g = let more = pow_below 0 (planes g) (pow_pos g.plane_bits) in grind (arith, nat_tests, more)

erases_lead_on : (count : ℕ) → all_lead_on (erases count) ≡ true
erases_lead_on zero = refl
erases_lead_on (suc count) = erases_lead_on count

erases_within : (g : Parts) (b : Bounds) (count : ℕ) → 1 ≤ b.rows → 5 * count ≤ b.budget → b.budget < 2 ^ 32 → fault_within g b (erases count) ≡ None
erases_within g b count rows paid small =
    let row : nat_le 1 b.rows ≡ true = grind (arith, nat_tests, rows) in
    straight_fault g b (erases count) (erases_lead_on count)
    ∙ (ap (λ (x : Option Fault). or_fault x (walked g b 0 (Some first_state) (erases count))) (straight_shape (erases count) (erases_lead_on count) (some_words count) (erases_end count))
    ∙ erases_walk g b count false any_but_31 None not_cached uncopied 0 0 row (some_planes g) refl small (omega (arith, paid)))

pub erases_are_accepted : ErasesAreAccepted
erases_are_accepted g text count is rows paid small =
    ap (fault_within g (bounds_of text)) is ∙ erases_within g (bounds_of text) count rows paid small

-- one erase, with whatever budget
one_walk : (g : Parts) (b : Bounds) → 1 ≤ b.rows → 5 ≤ b.budget → walked g b 0 (Some first_state) erase_words ≡ None
unfolding command reason_against breaks_cycle_forbidden breaks_address_unaligned breaks_handover_in_sequence breaks_buffer_passed breaks_row_or_plane_outside breaks_column_too_large breaks_no_status breaks_ends_too_soon breaks_over_budget breaks_command_not_allowed state_after
one_walk g b rows paid =
    let row : nat_le 1 b.rows ≡ true = grind (arith, nat_tests, rows) in
    let one : nat_le 1 b.budget ≡ true = grind (arith, nat_tests, paid) in
    let four : nat_le 4 b.budget ≡ true = grind (arith, nat_tests, paid) in
    let five : nat_le 5 b.budget ≡ true = grind (arith, nat_tests, paid) in
    rw (row, one, four, five, some_planes g) refl

pub erase_is_safe : EraseIsSafe
erase_is_safe text g words rows paid =
    walked_is_safe text g rows (ap all_lead_on words) (let long : length text.words ≡ 5 = ap (λ (ws : List Word). length ws) words in omega (arith, long)) (ap ends words) (ap (walked g (bounds_of text) 0 (Some first_state)) words ∙ one_walk g (bounds_of text) rows paid)
