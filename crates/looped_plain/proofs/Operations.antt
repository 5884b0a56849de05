-- From rest to rest: what is known behind each plain operation in a turn of a loop.
use Rattle.std.proofs.Common.{◌≡◌, ℕ, ◌+◌, ◌%◌, ◌^◌, ◌≤◌, ◌<◌, Bool, true, false, not, nat_le, List, [], ◌∷◌, Option, Some, None, arith}
use Rattle.nand_geometry.specs.declared.parts.Parts.{Parts}
use Rattle.nand_geometry.specs.Limits.{page_len, planes}
use Rattle.nand_geometry.specs.Optional.{is_wide, has_copyback}
use Rattle.onfi_cycle.specs.Command.{command}
use Rattle.micro_word.specs.declared.word.Word.{Word}
use Rattle.micro_word.specs.declared.word.Word.TheVariants.{Command, Address, Get, Put, Seek, Column, Row, Plane, Wait, BranchOnStatus}
use Rattle.micro_word.specs.Text.{Microprogram}
use Rattle.micro_claims.specs.Spans.{Span, greatest_bound}
use Rattle.micro_claims.specs.declared.planes.Planes.{Planes}
use Rattle.micro_claims.specs.declared.page_range.PageRange.{PageRange}
use Rattle.micro_claims.specs.declared.shown.Shown.{Shown}
use Rattle.micro_claims.specs.declared.held.Held.{Held}
use Rattle.micro_claims.specs.declared.output_column.OutputColumn.{OutputColumn}
use Rattle.micro_claims.specs.declared.cached_page.CachedPage.{CachedPage}
use Rattle.micro_claims.specs.declared.state.State.{State}
use Rattle.micro_claims.specs.declared.bounds.Bounds.{Bounds}
use Rattle.micro_claims.specs.Planes.{just_plane, are_below}
use Rattle.micro_claims.specs.Reasons.{reason_against, breaks_cycle_forbidden, breaks_address_unaligned, breaks_handover_in_sequence, breaks_buffer_passed, breaks_row_or_plane_outside, breaks_column_too_large, breaks_no_status, breaks_ends_too_soon, breaks_over_budget, breaks_command_not_allowed}
use Rattle.micro_claims.specs.Accepts.{state_after}
use Rattle.micro_walk.specs.Faults.{met}
use Rattle.micro_verify.proofs.PlainBasics.{le_test}
use Rattle.micro_verify.proofs.PlainOperations.{at_rest, calm, calm_too, row_tests, bytes_tests}
use Rattle.looped_plain.proofs.Walks.{ended}
use Rattle.micro_claims.specs.declared.copies.Copies.{Copies}
use Rattle.std.proofs.Math.Bool.{and-false}

-- a number that was set
abbrev pub known : ℕ → Span
known n = record { lo = n; hi = Some n; grown = None }

-- the page of a row in its block
abbrev pub page_of : Parts → ℕ → PageRange
page_of g row = record { lo = row % g.pages; hi = row % g.pages }

-- at rest in a turn in which so much has been paid, and so much in all
abbrev pub resting : (column : Span) (planes : Planes) (index : Span) (page : PageRange) (place : Span) (least growth : ℕ) (polled : Bool) (shows : Option Shown) (register : Option Held) (output : Option OutputColumn) (read other : Bool) (cached : CachedPage) (held array : Planes) (copies : Copies) (total paid : ℕ) → State
resting column planes index page place least growth polled shows register output read other cached held array copies total paid =
    at_rest column planes index page place least (Some (record { lo = growth; hi = Some paid })) polled shows register output read other cached held array copies total

-- the bounds as a header
abbrev header : Bounds → Microprogram
header b = record { rows = b.rows; buffer = b.buffer; budget = b.budget; words = [] }

-- what holds of what is known behind an operation holds of what is known behind the words from its first one on
pub read_ends : (g : Parts) (b : Bounds) (P : Option State → Type 0) (f : Option State) (row plane column place len total paid : ℕ) (rest : List Word)
    → plane ≤ 3 → are_below (planes g) (just_plane plane) ≡ true → row + 1 ≤ b.rows → b.rows ≤ 4096 → 1 ≤ len → column + len ≤ page_len g → page_len g ≤ 20480 → place + len ≤ b.buffer → b.buffer ≤ 16777215
    → total + 8 + len ≤ b.budget → b.budget < 2 ^ 32 → paid ≤ total
    → ((least growth : ℕ) (shows : Option Shown) (register : Option Held) (output : Option OutputColumn) (cached : CachedPage) (held array : Planes) (copies : Copies)
    → P (ended g b (resting (known column) (just_plane plane) (known row) (page_of g row) (known (place + len)) least growth true shows register output true false cached held array copies (total + 1 + 5 + 1 + 1 + len) (paid + 1 + 5 + 1 + 1 + len)) f rest))
    → (c : Span) (ps : Planes) (i : Span) (pg : PageRange) (pl : Span) (least growth : ℕ) (polled : Bool) (shows : Option Shown) (register : Option Held) (output : Option OutputColumn) (read other : Bool) (cached : CachedPage) (held array : Planes) (copies : Copies)
    → P (ended g b (resting c ps i pg pl least growth polled shows register output read other cached held array copies total paid) f (Row row ∷ Plane plane ∷ Column column ∷ Seek place ∷ Command 0x00 ∷ Address 0 5 ∷ Command 0x30 ∷ Wait ∷ Command 0x00 ∷ Get len ∷ rest))
unfolding command reason_against breaks_cycle_forbidden breaks_address_unaligned breaks_handover_in_sequence breaks_buffer_passed breaks_row_or_plane_outside breaks_column_too_large breaks_no_status breaks_ends_too_soon breaks_over_budget breaks_command_not_allowed state_after
read_ends g b P f row plane column place len total paid rest p below r rows l inside long buffered buffer cost budget less on = λ c ps i pg pl least growth polled shows register output read other cached held array copies.
    (let at = row_tests (header b) row plane p r rows in
    let these = bytes_tests g (header b) column place len l inside long buffered buffer in
    let kept1 : nat_le (total + 1) greatest_bound ≡ true = le_test _ _ (omega (arith, cost, budget)) in
    let kept2 : nat_le (total + 1 + 5) greatest_bound ≡ true = le_test _ _ (omega (arith, cost, budget)) in
    let kept3 : nat_le (total + 1 + 5 + 1) greatest_bound ≡ true = le_test _ _ (omega (arith, cost, budget)) in
    let kept4 : nat_le (total + 1 + 5 + 1 + 1) greatest_bound ≡ true = le_test _ _ (omega (arith, cost, budget)) in
    let kept5 : nat_le (total + 1 + 5 + 1 + 1 + len) greatest_bound ≡ true = le_test _ _ (omega (arith, cost, budget)) in
    let grew1 : nat_le (paid + 1) greatest_bound ≡ true = le_test _ _ (omega (arith, cost, budget, less)) in
    let grew2 : nat_le (paid + 1 + 5) greatest_bound ≡ true = le_test _ _ (omega (arith, cost, budget, less)) in
    let grew3 : nat_le (paid + 1 + 5 + 1) greatest_bound ≡ true = le_test _ _ (omega (arith, cost, budget, less)) in
    let grew4 : nat_le (paid + 1 + 5 + 1 + 1) greatest_bound ≡ true = le_test _ _ (omega (arith, cost, budget, less)) in
    let grew5 : nat_le (paid + 1 + 5 + 1 + 1 + len) greatest_bound ≡ true = le_test _ _ (omega (arith, cost, budget, less)) in
    let paid1 : nat_le (total + 1) b.budget ≡ true = le_test _ _ (omega (arith, cost)) in
    let paid2 : nat_le (total + 1 + 5) b.budget ≡ true = le_test _ _ (omega (arith, cost)) in
    let paid3 : nat_le (total + 1 + 5 + 1) b.budget ≡ true = le_test _ _ (omega (arith, cost)) in
    let paid4 : nat_le (total + 1 + 5 + 1 + 1) b.budget ≡ true = le_test _ _ (omega (arith, cost)) in
    let paid5 : nat_le (total + 1 + 5 + 1 + 1 + len) b.budget ≡ true = le_test _ _ (omega (arith, cost)) in
    rw (at.plane_there, below, at.row_kept, at.row_more, at.row_there, these.column_kept, these.column_more, these.column_len, these.column_there, these.column_inside, these.not_past, these.place_kept, these.place_len, these.place_inside, kept1, kept2, kept3, kept4, kept5, grew1, grew2, grew3, grew4, grew5, paid1, paid2, paid3, paid4, paid5, these.some, these.costs, calm_too (is_wide g.optional) read other, calm_too (not (is_wide g.optional)) read other)
    (on _ _ _ _ _ _ _ _ _))

pub program_ends : (g : Parts) (b : Bounds) (P : Option State → Type 0) (f : Option State) (row plane column place len total paid failure : ℕ) (rest : List Word)
    → plane ≤ 3 → are_below (planes g) (just_plane plane) ≡ true → row + 1 ≤ b.rows → b.rows ≤ 4096 → 1 ≤ len → column + len ≤ page_len g → page_len g ≤ 20480 → place + len ≤ b.buffer → b.buffer ≤ 16777215
    → total + 7 + len ≤ b.budget → b.budget < 2 ^ 32 → paid ≤ total
    → ((least growth : ℕ) (shows : Option Shown) (register : Option Held) (output : Option OutputColumn) (cached : CachedPage) (held array : Planes) (copies : Copies)
    → P (ended g b (resting (known column) (just_plane plane) (known row) (page_of g row) (known (place + len)) least growth true shows register output false true cached held array copies (total + 1 + 5 + len + 1) (paid + 1 + 5 + len + 1)) (Some (met f (resting (known column) (just_plane plane) (known row) (page_of g row) (known (place + len)) least growth true shows register output false true cached held array copies (total + 1 + 5 + len + 1) (paid + 1 + 5 + len + 1)))) rest))
    → (c : Span) (ps : Planes) (i : Span) (pg : PageRange) (pl : Span) (least growth : ℕ) (polled : Bool) (shows : Option Shown) (register : Option Held) (output : Option OutputColumn) (read other : Bool) (cached : CachedPage) (held array : Planes) (copies : Copies)
    → P (ended g b (resting c ps i pg pl least growth polled shows register output read other cached held array copies total paid) f (Row row ∷ Plane plane ∷ Column column ∷ Seek place ∷ Command 0x80 ∷ Address 0 5 ∷ Put len ∷ Command 0x10 ∷ Wait ∷ BranchOnStatus 0x01 failure ∷ rest))
unfolding command reason_against breaks_cycle_forbidden breaks_address_unaligned breaks_handover_in_sequence breaks_buffer_passed breaks_row_or_plane_outside breaks_column_too_large breaks_no_status breaks_ends_too_soon breaks_over_budget breaks_command_not_allowed state_after
program_ends g b P f row plane column place len total paid failure rest p below r rows l inside long buffered buffer cost budget less on = λ c ps i pg pl least growth polled shows register output read other cached held array copies.
    (let at = row_tests (header b) row plane p r rows in
    let these = bytes_tests g (header b) column place len l inside long buffered buffer in
    let kept1 : nat_le (total + 1) greatest_bound ≡ true = le_test _ _ (omega (arith, cost, budget)) in
    let kept2 : nat_le (total + 1 + 5) greatest_bound ≡ true = le_test _ _ (omega (arith, cost, budget)) in
    let kept3 : nat_le (total + 1 + 5 + len) greatest_bound ≡ true = le_test _ _ (omega (arith, cost, budget)) in
    let kept4 : nat_le (total + 1 + 5 + len + 1) greatest_bound ≡ true = le_test _ _ (omega (arith, cost, budget)) in
    let grew1 : nat_le (paid + 1) greatest_bound ≡ true = le_test _ _ (omega (arith, cost, budget, less)) in
    let grew2 : nat_le (paid + 1 + 5) greatest_bound ≡ true = le_test _ _ (omega (arith, cost, budget, less)) in
    let grew3 : nat_le (paid + 1 + 5 + len) greatest_bound ≡ true = le_test _ _ (omega (arith, cost, budget, less)) in
    let grew4 : nat_le (paid + 1 + 5 + len + 1) greatest_bound ≡ true = le_test _ _ (omega (arith, cost, budget, less)) in
    let paid1 : nat_le (total + 1) b.budget ≡ true = le_test _ _ (omega (arith, cost)) in
    let paid2 : nat_le (total + 1 + 5) b.budget ≡ true = le_test _ _ (omega (arith, cost)) in
    let paid3 : nat_le (total + 1 + 5 + len) b.budget ≡ true = le_test _ _ (omega (arith, cost)) in
    let paid4 : nat_le (total + 1 + 5 + len + 1) b.budget ≡ true = le_test _ _ (omega (arith, cost)) in
    rw (these.some, these.costs, at.plane_there, below, at.row_kept, at.row_more, at.row_there, these.column_kept, these.column_more, these.column_len, these.column_there, these.column_inside, these.not_past, these.place_kept, these.place_len, these.place_inside, kept1, kept2, kept3, kept4, grew1, grew2, grew3, grew4, paid1, paid2, paid3, paid4, calm read other, and-false (has_copyback g.optional))
    (on _ _ _ _ _ _ _ _ _))

pub erase_ends : (g : Parts) (b : Bounds) (P : Option State → Type 0) (f : Option State) (row plane total paid failure : ℕ) (rest : List Word)
    → plane ≤ 3 → are_below (planes g) (just_plane plane) ≡ true → row + 1 ≤ b.rows → b.rows ≤ 4096
    → total + 5 ≤ b.budget → b.budget < 2 ^ 32 → paid ≤ total
    → (c : Span) (pl : Span)
    → ((least growth : ℕ) (shows : Option Shown) (register : Option Held) (output : Option OutputColumn) (cached : CachedPage) (held array : Planes) (copies : Copies)
    → P (ended g b (resting c (just_plane plane) (known row) (page_of g row) pl least growth true shows register output false true cached held array copies (total + 1 + 3 + 1) (paid + 1 + 3 + 1)) (Some (met f (resting c (just_plane plane) (known row) (page_of g row) pl least growth true shows register output false true cached held array copies (total + 1 + 3 + 1) (paid + 1 + 3 + 1)))) rest))
    → (ps : Planes) (i : Span) (pg : PageRange) (least growth : ℕ) (polled : Bool) (shows : Option Shown) (register : Option Held) (output : Option OutputColumn) (read other : Bool) (cached : CachedPage) (held array : Planes) (copies : Copies)
    → P (ended g b (resting c ps i pg pl least growth polled shows register output read other cached held array copies total paid) f (Row row ∷ Plane plane ∷ Command 0x60 ∷ Address 2 3 ∷ Command 0xd0 ∷ Wait ∷ BranchOnStatus 0x01 failure ∷ rest))
unfolding command reason_against breaks_cycle_forbidden breaks_address_unaligned breaks_handover_in_sequence breaks_buffer_passed breaks_row_or_plane_outside breaks_column_too_large breaks_no_status breaks_ends_too_soon breaks_over_budget breaks_command_not_allowed state_after
erase_ends g b P f row plane total paid failure rest p below r rows cost budget less c pl on = λ ps i pg least growth polled shows register output read other cached held array copies.
    (let at = row_tests (header b) row plane p r rows in
    let kept1 : nat_le (total + 1) greatest_bound ≡ true = le_test _ _ (omega (arith, cost, budget)) in
    let kept2 : nat_le (total + 1 + 3) greatest_bound ≡ true = le_test _ _ (omega (arith, cost, budget)) in
    let kept3 : nat_le (total + 1 + 3 + 1) greatest_bound ≡ true = le_test _ _ (omega (arith, cost, budget)) in
    let grew1 : nat_le (paid + 1) greatest_bound ≡ true = le_test _ _ (omega (arith, cost, budget, less)) in
    let grew2 : nat_le (paid + 1 + 3) greatest_bound ≡ true = le_test _ _ (omega (arith, cost, budget, less)) in
    let grew3 : nat_le (paid + 1 + 3 + 1) greatest_bound ≡ true = le_test _ _ (omega (arith, cost, budget, less)) in
    let paid1 : nat_le (total + 1) b.budget ≡ true = le_test _ _ (omega (arith, cost)) in
    let paid2 : nat_le (total + 1 + 3) b.budget ≡ true = le_test _ _ (omega (arith, cost)) in
    let paid3 : nat_le (total + 1 + 3 + 1) b.budget ≡ true = le_test _ _ (omega (arith, cost)) in
    rw (at.plane_there, below, at.row_kept, at.row_more, at.row_there, kept1, kept2, kept3, grew1, grew2, grew3, paid1, paid2, paid3, calm read other)
    (on _ _ _ _ _ _ _ _ _))
