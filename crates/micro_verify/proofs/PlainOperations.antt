-- From rest to rest: over each operation nothing is against the words.
use Rattle.std.proofs.Common.{◌≡◌, ℕ, ◌+◌, ◌^◌, ◌≤◌, ◌<◌, ◌==◌, Bool, true, false, ◌&&◌, ◌||◌, cond, not, nat_le, nat_lt, List, ◌∷◌, Option, Some, refl, arith}
use Rattle.nand_geometry.specs.declared.parts.Parts.{Parts}
use Rattle.nand_geometry.specs.Limits.{page_len, planes}
use Rattle.nand_geometry.specs.Optional.{is_wide, has_copyback}
use Rattle.onfi_cycle.specs.Command.{command}
use Rattle.micro_word.specs.declared.word.Word.{Word}
use Rattle.micro_word.specs.declared.word.Word.TheVariants.{Command, Address, Get, Put, Seek, Column, Row, Plane, Wait, BranchOnStatus}
use Rattle.micro_word.specs.Text.{Microprogram}
use Rattle.micro_claims.specs.Spans.{Span}
use Rattle.micro_claims.specs.declared.growth.Growth.{Growth}
use Rattle.micro_claims.specs.declared.planes.Planes.{Planes}
use Rattle.micro_claims.specs.declared.page_range.PageRange.{PageRange}
use Rattle.micro_claims.specs.declared.shown.Shown.{Shown}
use Rattle.micro_claims.specs.declared.held.Held.{Held}
use Rattle.micro_claims.specs.declared.output_column.OutputColumn.{OutputColumn}
use Rattle.micro_claims.specs.declared.queued_rows.QueuedRows.TheVariants.{NoRows}
use Rattle.micro_claims.specs.declared.cached_page.CachedPage.{CachedPage}
use Rattle.micro_claims.specs.declared.state.State.{State}
use Rattle.micro_claims.specs.Spans.{greatest_bound}
use Rattle.micro_claims.specs.Planes.{just_plane, are_below}
use Rattle.micro_claims.specs.declared.last_closer.LastCloser.{LastCloser}
use Rattle.micro_claims.specs.State.{closed, may_be_31}
use Rattle.micro_claims.specs.Reasons.{reason_against, breaks_cycle_forbidden, breaks_address_unaligned, breaks_handover_in_sequence, breaks_buffer_passed, breaks_row_or_plane_outside, breaks_column_too_large, breaks_no_status, breaks_ends_too_soon, breaks_over_budget, breaks_command_not_allowed}
use Rattle.micro_claims.specs.Accepts.{state_after}
use Rattle.micro_walk.specs.Faults.{met}
use Rattle.micro_verify.proofs.PlainBasics.{le_test, lt_test, not_lt_test, not_le_test, not_zero}
use Rattle.micro_verify.proofs.PlainFollowing.{goes_well}
use Rattle.micro_claims.specs.declared.copies.Copies.{Copies}
use Rattle.std.proofs.Math.Bool.{and-false}

-- the last closer may be 30h or not, and another or not, but not 31h
abbrev pub closer_of : (read other : Bool) → LastCloser
closer_of read other = record { 0 = cond read (cond other 5 1) (cond other 4 0) }

pub calm : (read other : Bool) → may_be_31 (closer_of read other) ≡ false
calm true true = refl
calm true false = refl
calm false true = refl
calm false false = refl

-- and no program of a 15 either
pub calm_end : (read other : Bool) → (may_be_31 (closer_of read other) || false) ≡ false
calm_end true true = refl
calm_end true false = refl
calm_end false true = refl
calm_end false false = refl

-- no cache read goes on, whatever else is asked
pub calm_too : (asks read other : Bool) → (asks && may_be_31 (closer_of read other)) ≡ false
calm_too true read other = calm read other
calm_too false read other = refl

-- nothing is open, the LUN is ready, its queue empty, no cache is read or programmed, so many cycles being paid at most; the rest may be anything
abbrev pub at_rest : (column : Span) (planes : Planes) (index : Span) (page : PageRange) (place : Span) (least : ℕ) (grown : Option Growth) (polled : Bool) (shows : Option Shown) (register : Option Held) (output : Option OutputColumn) (read other : Bool) (cached : CachedPage) (held array : Planes) (copies : Copies) (paid : ℕ) → State
at_rest column planes index page place least grown polled shows register output read other cached held array copies paid =
    record {
      registers = record { column = column; planes = planes; index = index; page = page; place = place; cost = record { lo = least; hi = Some paid; grown = grown }; polled = polled };
      target = closed shows;
      lun = record { busy = false; register = register; column = output; queue = NoRows; last = closer_of read other; cached = cached; held = held; array = array; copies = copies; programming = false };
    }

-- from every state at rest, so many cycles being paid, all goes well
abbrev pub FromRest : Parts → Microprogram → (failed : Option State) → (paid : ℕ) → List Word → Type 0
FromRest g x f paid words =
    (column : Span) (planes : Planes) (index : Span) (page : PageRange) (place : Span) (least : ℕ) (grown : Option Growth) (polled : Bool) (shows : Option Shown) (register : Option Held) (output : Option OutputColumn) (read other : Bool) (cached : CachedPage) (held array : Planes) (copies : Copies)
    → goes_well g x (at_rest column planes index page place least grown polled shows register output read other cached held array copies paid) f words ≡ true

-- the same where a way has led to the last word from the very state
abbrev pub FromBranch : Parts → Microprogram → (failed : Option State) → (paid : ℕ) → List Word → Type 0
FromBranch g x f paid words =
    (column : Span) (planes : Planes) (index : Span) (page : PageRange) (place : Span) (least : ℕ) (grown : Option Growth) (polled : Bool) (shows : Option Shown) (register : Option Held) (output : Option OutputColumn) (read other : Bool) (cached : CachedPage) (held array : Planes) (copies : Copies)
    → goes_well g x (at_rest column planes index page place least grown polled shows register output read other cached held array copies paid) (Some (met f (at_rest column planes index page place least grown polled shows register output read other cached held array copies paid))) words ≡ true

-- a row and its plane are inside, as the tests of them are told
pub record RowTests (x : Microprogram) (row plane : ℕ) : Type 0 where
  pub plane_there : nat_lt 3 plane ≡ false
  pub row_kept : nat_le row greatest_bound ≡ true
  pub row_more : nat_le (row + 1) greatest_bound ≡ true
  pub row_there : nat_le (row + 1) x.rows ≡ true

pub row_tests : (x : Microprogram) (row plane : ℕ) → plane ≤ 3 → row + 1 ≤ x.rows → x.rows ≤ 4096 → RowTests x row plane
row_tests x row plane p r rows =
    record {
      plane_there = not_lt_test 3 plane p;
      row_kept = le_test row greatest_bound (omega (arith, r, rows));
      row_more = le_test (row + 1) greatest_bound (omega (arith, r, rows));
      row_there = le_test (row + 1) x.rows r;
    }

-- bytes of a page and their places in the buffer are inside, as the tests of them are told
pub record BytesTests (g : Parts) (x : Microprogram) (column place len : ℕ) : Type 0 where
  pub column_kept : nat_le column greatest_bound ≡ true
  pub column_more : nat_le (column + 1) greatest_bound ≡ true
  pub column_len : nat_le (column + len) greatest_bound ≡ true
  pub column_there : nat_le (column + 1) (page_len g) ≡ true
  pub column_inside : nat_le (column + len) (page_len g) ≡ true
  pub not_past : nat_le (page_len g) column ≡ false
  pub place_kept : nat_le place greatest_bound ≡ true
  pub place_len : nat_le (place + len) greatest_bound ≡ true
  pub place_inside : nat_le (place + len) x.buffer ≡ true
  pub some : nat_lt 0 len ≡ true
  pub costs : (len == 0) ≡ false

pub bytes_tests : (g : Parts) (x : Microprogram) (column place len : ℕ) → 1 ≤ len → column + len ≤ page_len g → page_len g ≤ 20480 → place + len ≤ x.buffer → x.buffer ≤ 16777215 → BytesTests g x column place len
bytes_tests g x column place len l inside long buffered buffer =
    record {
      column_kept = le_test column greatest_bound (omega (arith, inside, long));
      column_more = le_test (column + 1) greatest_bound (omega (arith, inside, long));
      column_len = le_test (column + len) greatest_bound (omega (arith, inside, long));
      column_there = le_test (column + 1) (page_len g) (omega (arith, inside, l));
      column_inside = le_test (column + len) (page_len g) inside;
      not_past = not_le_test (page_len g) column (omega (arith, inside, l));
      place_kept = le_test place greatest_bound (omega (arith, buffered, buffer));
      place_len = le_test (place + len) greatest_bound (omega (arith, buffered, buffer));
      place_inside = le_test (place + len) x.buffer buffered;
      some = lt_test 0 len l;
      costs = not_zero len l;
    }

pub read_goes_well : (g : Parts) (x : Microprogram) (f : Option State) (row plane column place len paid : ℕ) (rest : List Word)
    → plane ≤ 3 → are_below (planes g) (just_plane plane) ≡ true → row + 1 ≤ x.rows → x.rows ≤ 4096 → 1 ≤ len → column + len ≤ page_len g → page_len g ≤ 20480 → place + len ≤ x.buffer → x.buffer ≤ 16777215
    → paid + 8 + len ≤ x.budget → x.budget < 2 ^ 32 → FromRest g x f (paid + 1 + 5 + 1 + 1 + len) rest
    → FromRest g x f paid (Row row ∷ Plane plane ∷ Column column ∷ Seek place ∷ Command 0x00 ∷ Address 0 5 ∷ Command 0x30 ∷ Wait ∷ Command 0x00 ∷ Get len ∷ rest)
unfolding command reason_against breaks_cycle_forbidden breaks_address_unaligned breaks_handover_in_sequence breaks_buffer_passed breaks_row_or_plane_outside breaks_column_too_large breaks_no_status breaks_ends_too_soon breaks_over_budget breaks_command_not_allowed state_after
read_goes_well g x f row plane column place len paid rest p below r rows l inside long buffered buffer cost budget on = λ c ps i pg pl least grown polled shows register output read other cached held array copies.
    (let at = row_tests x row plane p r rows in
    let these = bytes_tests g x column place len l inside long buffered buffer in
    let kept1 : nat_le (paid + 1) greatest_bound ≡ true = le_test _ _ (omega (arith, cost, budget)) in
    let kept2 : nat_le (paid + 1 + 5) greatest_bound ≡ true = le_test _ _ (omega (arith, cost, budget)) in
    let kept3 : nat_le (paid + 1 + 5 + 1) greatest_bound ≡ true = le_test _ _ (omega (arith, cost, budget)) in
    let kept4 : nat_le (paid + 1 + 5 + 1 + 1) greatest_bound ≡ true = le_test _ _ (omega (arith, cost, budget)) in
    let kept5 : nat_le (paid + 1 + 5 + 1 + 1 + len) greatest_bound ≡ true = le_test _ _ (omega (arith, cost, budget)) in
    let paid1 : nat_le (paid + 1) x.budget ≡ true = le_test _ _ (omega (arith, cost)) in
    let paid2 : nat_le (paid + 1 + 5) x.budget ≡ true = le_test _ _ (omega (arith, cost)) in
    let paid3 : nat_le (paid + 1 + 5 + 1) x.budget ≡ true = le_test _ _ (omega (arith, cost)) in
    let paid4 : nat_le (paid + 1 + 5 + 1 + 1) x.budget ≡ true = le_test _ _ (omega (arith, cost)) in
    let paid5 : nat_le (paid + 1 + 5 + 1 + 1 + len) x.budget ≡ true = le_test _ _ (omega (arith, cost)) in
    rw (at.plane_there, below, at.row_kept, at.row_more, at.row_there, these.column_kept, these.column_more, these.column_len, these.column_there, these.column_inside, these.not_past, these.place_kept, these.place_len, these.place_inside, kept1, kept2, kept3, kept4, kept5, paid1, paid2, paid3, paid4, paid5, these.some, these.costs, calm_too (is_wide g.optional) read other, calm_too (not (is_wide g.optional)) read other)
    (on _ _ _ _ _ _ _ _ _ _ _ true false _ _ _ _))

pub program_goes_well : (g : Parts) (x : Microprogram) (f : Option State) (row plane column place len paid failure : ℕ) (rest : List Word)
    → plane ≤ 3 → are_below (planes g) (just_plane plane) ≡ true → row + 1 ≤ x.rows → x.rows ≤ 4096 → 1 ≤ len → column + len ≤ page_len g → page_len g ≤ 20480 → place + len ≤ x.buffer → x.buffer ≤ 16777215
    → paid + 7 + len ≤ x.budget → x.budget < 2 ^ 32 → FromBranch g x f (paid + 1 + 5 + len + 1) rest
    → FromRest g x f paid (Row row ∷ Plane plane ∷ Column column ∷ Seek place ∷ Command 0x80 ∷ Address 0 5 ∷ Put len ∷ Command 0x10 ∷ Wait ∷ BranchOnStatus 0x01 failure ∷ rest)
unfolding command reason_against breaks_cycle_forbidden breaks_address_unaligned breaks_handover_in_sequence breaks_buffer_passed breaks_row_or_plane_outside breaks_column_too_large breaks_no_status breaks_ends_too_soon breaks_over_budget breaks_command_not_allowed state_after
program_goes_well g x f row plane column place len paid failure rest p below r rows l inside long buffered buffer cost budget on = λ c ps i pg pl least grown polled shows register output read other cached held array copies.
    (let at = row_tests x row plane p r rows in
    let these = bytes_tests g x column place len l inside long buffered buffer in
    let kept1 : nat_le (paid + 1) greatest_bound ≡ true = le_test _ _ (omega (arith, cost, budget)) in
    let kept2 : nat_le (paid + 1 + 5) greatest_bound ≡ true = le_test _ _ (omega (arith, cost, budget)) in
    let kept3 : nat_le (paid + 1 + 5 + len) greatest_bound ≡ true = le_test _ _ (omega (arith, cost, budget)) in
    let kept4 : nat_le (paid + 1 + 5 + len + 1) greatest_bound ≡ true = le_test _ _ (omega (arith, cost, budget)) in
    let paid1 : nat_le (paid + 1) x.budget ≡ true = le_test _ _ (omega (arith, cost)) in
    let paid2 : nat_le (paid + 1 + 5) x.budget ≡ true = le_test _ _ (omega (arith, cost)) in
    let paid3 : nat_le (paid + 1 + 5 + len) x.budget ≡ true = le_test _ _ (omega (arith, cost)) in
    let paid4 : nat_le (paid + 1 + 5 + len + 1) x.budget ≡ true = le_test _ _ (omega (arith, cost)) in
    rw (these.some, these.costs, at.plane_there, below, at.row_kept, at.row_more, at.row_there, these.column_kept, these.column_more, these.column_len, these.column_there, these.column_inside, these.not_past, these.place_kept, these.place_len, these.place_inside, kept1, kept2, kept3, kept4, paid1, paid2, paid3, paid4, calm read other, and-false (has_copyback g.optional))
    (on _ _ _ _ _ _ _ _ _ _ _ false true _ _ _ _))

pub erase_goes_well : (g : Parts) (x : Microprogram) (f : Option State) (row plane paid failure : ℕ) (rest : List Word)
    → plane ≤ 3 → are_below (planes g) (just_plane plane) ≡ true → row + 1 ≤ x.rows → x.rows ≤ 4096
    → paid + 5 ≤ x.budget → x.budget < 2 ^ 32 → FromBranch g x f (paid + 1 + 3 + 1) rest
    → FromRest g x f paid (Row row ∷ Plane plane ∷ Command 0x60 ∷ Address 2 3 ∷ Command 0xd0 ∷ Wait ∷ BranchOnStatus 0x01 failure ∷ rest)
unfolding command reason_against breaks_cycle_forbidden breaks_address_unaligned breaks_handover_in_sequence breaks_buffer_passed breaks_row_or_plane_outside breaks_column_too_large breaks_no_status breaks_ends_too_soon breaks_over_budget breaks_command_not_allowed state_after
erase_goes_well g x f row plane paid failure rest p below r rows cost budget on = λ c ps i pg pl least grown polled shows register output read other cached held array copies.
    (let at = row_tests x row plane p r rows in
    let kept1 : nat_le (paid + 1) greatest_bound ≡ true = le_test _ _ (omega (arith, cost, budget)) in
    let kept2 : nat_le (paid + 1 + 3) greatest_bound ≡ true = le_test _ _ (omega (arith, cost, budget)) in
    let kept3 : nat_le (paid + 1 + 3 + 1) greatest_bound ≡ true = le_test _ _ (omega (arith, cost, budget)) in
    let paid1 : nat_le (paid + 1) x.budget ≡ true = le_test _ _ (omega (arith, cost)) in
    let paid2 : nat_le (paid + 1 + 3) x.budget ≡ true = le_test _ _ (omega (arith, cost)) in
    let paid3 : nat_le (paid + 1 + 3 + 1) x.budget ≡ true = le_test _ _ (omega (arith, cost)) in
    rw (at.plane_there, below, at.row_kept, at.row_more, at.row_there, kept1, kept2, kept3, paid1, paid2, paid3, calm read other)
    (on _ _ _ _ _ _ _ _ _ _ _ false true _ _ _ _))
