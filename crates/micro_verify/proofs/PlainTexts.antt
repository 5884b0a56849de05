-- Plain texts: the verifier finds no fault in them.
use Rattle.std.proofs.Common.{◌≡◌, ℕ, zero, suc, ◌+◌, ◌^◌, ◌≤◌, ◌<◌, Bool, true, false, cond, List, [], ◌∷◌, Option, Some, None, refl, sym, ap, ◌∙◌, arith, length, inl, inr}
use Rattle.std.specs.Prelude.{replicate}
use Rattle.nand_geometry.specs.declared.parts.Parts.{Parts}
use Rattle.nand_geometry.specs.Limits.{InLimits}
use Rattle.micro_word.specs.declared.word.Word.{Word}
use Rattle.micro_word.specs.Text.{Microprogram}
use Rattle.micro_claims.specs.declared.refusal.Fault.{Fault}
use Rattle.micro_claims.specs.declared.state.State.{State}
use Rattle.micro_claims.specs.State.{bounds_of, first_state, not_cached, uncopied}
use Rattle.micro_claims.specs.Spans.{exactly}
use Rattle.micro_claims.specs.Planes.{just_plane, no_planes}
use Rattle.micro_claims.specs.Certificate.{claim}
use Rattle.micro_claims.specs.Reasons.{reason_against, breaks_cycle_forbidden, breaks_address_unaligned, breaks_handover_in_sequence, breaks_buffer_passed, breaks_row_or_plane_outside, breaks_column_too_large, breaks_no_status, breaks_ends_too_soon, breaks_over_budget, breaks_command_not_allowed}
use Rattle.micro_walk.specs.Shape.{or_fault}
use Rattle.micro_walk.specs.Faults.{known_first, met, followed, has_loop}
use Rattle.micro_walk.proofs.Ahead.{claim_there, claim_elsewhere, known_length}
use Rattle.micro_verify.specs.declared.plain_op.PlainOp.{PlainOp}
use Rattle.micro_verify.specs.declared.plain_op.PlainOp.TheVariants.{Read, Program, Erase}
use Rattle.micro_verify.specs.Plain.{operations_len, rows_of, buffer_of, budget_of, words_from, plain_text, PlainTextsAreFaultless, PlainTextsAreAccepted}
use Rattle.micro_verify.proofs.PlainFollowing.{Stands, well_followed}
use Rattle.micro_verify.proofs.PlainFailures.{may_end, met_may_end, end_is_fine}
use Rattle.micro_verify.proofs.PlainOperations.{calm_end, calm, at_rest, FromRest, read_goes_well, program_goes_well, erase_goes_well}
use Rattle.micro_verify.proofs.PlainShapes.{words_long, are_led, no_loop, well_shaped}
use Rattle.micro_verify.proofs.PlainInsides.{AllInside, row_fits, part_fits, few_planes, short_page, plane_below, rows_parts, buffer_parts, rows_fit, buffer_fits, budget_fits, are_fine}

-- the bounds of a text that operations stay in, with so many cycles paid
record Bounded (x : Microprogram) (paid : ℕ) (ops : List PlainOp) : Type 0 where
  rows : rows_of ops ≤ x.rows
  few_rows : x.rows ≤ 4096
  buffer : buffer_of ops ≤ x.buffer
  short_buffer : x.buffer ≤ 16777215
  budget : paid + budget_of ops ≤ x.budget
  small_budget : x.budget < 2 ^ 32

-- the bounds of the operations behind one
behind : (x : Microprogram) (paid later : ℕ) (op : PlainOp) (ops : List PlainOp) → Bounded x paid (op ∷ ops) → later + budget_of ops ≤ x.budget → Bounded x later ops
behind x paid later op ops d h =
    record {
      rows = (rows_parts op ops x.rows d.rows).1;
      few_rows = d.few_rows;
      buffer = (buffer_parts op ops x.buffer d.buffer).1;
      short_buffer = d.short_buffer;
      budget = h;
      small_budget = d.small_budget;
    }

-- from rest all goes well over the operations, whatever states have met at the last word
rest_goes_well : (g : Parts) → InLimits g → (x : Microprogram) (failure : ℕ) (ops : List PlainOp) (f : Option State) (paid : ℕ) → AllInside g ops → Bounded x paid ops → may_end f ≡ true → FromRest g x f paid (words_from failure ops)
unfolding reason_against breaks_cycle_forbidden breaks_address_unaligned breaks_handover_in_sequence breaks_buffer_passed breaks_row_or_plane_outside breaks_column_too_large breaks_no_status breaks_ends_too_soon breaks_over_budget breaks_command_not_allowed
rest_goes_well g l x failure [] f paid inside d e = λ column planes index page place least grown polled shows register output read other cached held array copies. rw (calm read other) (end_is_fine g x f e)
rest_goes_well g l x failure (Read row plane column place len ∷ ops) f paid inside d e =
    let fits = part_fits g row plane column place len inside.0 in
    let there = fits.0.plane_there in
    let planes = few_planes g l in
    let budget = d.budget in
    read_goes_well g x f row plane column place len paid (words_from failure ops)
    (omega (arith, there, planes)) (plane_below _ plane there) (rows_parts (Read row plane column place len) ops x.rows d.rows).0 d.few_rows
    fits.1.some fits.1.page (short_page g l) (buffer_parts (Read row plane column place len) ops x.buffer d.buffer).0 d.short_buffer (omega (arith, budget)) d.small_budget
    (rest_goes_well g l x failure ops f (paid + 1 + 5 + 1 + 1 + len) inside.1 (behind x paid _ _ ops d (omega (arith, budget))) e)
rest_goes_well g l x failure (Program row plane column place len ∷ ops) f paid inside d e =
    let fits = part_fits g row plane column place len inside.0 in
    let there = fits.0.plane_there in
    let planes = few_planes g l in
    let budget = d.budget in
    program_goes_well g x f row plane column place len paid failure (words_from failure ops)
    (omega (arith, there, planes)) (plane_below _ plane there) (rows_parts (Program row plane column place len) ops x.rows d.rows).0 d.few_rows
    fits.1.some fits.1.page (short_page g l) (buffer_parts (Program row plane column place len) ops x.buffer d.buffer).0 d.short_buffer (omega (arith, budget)) d.small_budget
    (λ column planes index page place least grown polled shows register output read other cached held array copies.
    rest_goes_well g l x failure ops (Some (met f (at_rest column planes index page place least grown polled shows register output read other cached held array copies (paid + 1 + 5 + len + 1)))) (paid + 1 + 5 + len + 1) inside.1 (behind x paid _ _ ops d (omega (arith, budget)))
    (met_may_end f (at_rest column planes index page place least grown polled shows register output read other cached held array copies (paid + 1 + 5 + len + 1)) e (calm_end read other))
    column planes index page place least grown polled shows register output read other cached held array copies)
rest_goes_well g l x failure (Erase row plane ∷ ops) f paid inside d e =
    let fits = row_fits g row plane inside.0 in
    let there = fits.plane_there in
    let planes = few_planes g l in
    let budget = d.budget in
    erase_goes_well g x f row plane paid failure (words_from failure ops)
    (omega (arith, there, planes)) (plane_below _ plane there) (rows_parts (Erase row plane) ops x.rows d.rows).0 d.few_rows (omega (arith, budget)) d.small_budget
    (λ column planes index page place least grown polled shows register output read other cached held array copies.
    rest_goes_well g l x failure ops (Some (met f (at_rest column planes index page place least grown polled shows register output read other cached held array copies (paid + 1 + 3 + 1)))) (paid + 1 + 3 + 1) inside.1 (behind x paid _ _ ops d (omega (arith, budget)))
    (met_may_end f (at_rest column planes index page place least grown polled shows register output read other cached held array copies (paid + 1 + 3 + 1)) e (calm_end read other))
    column planes index page place least grown polled shows register output read other cached held array copies)

-- ---- the whole text

nothing_known : (count p : ℕ) → claim (replicate {A = Option State} count None) p ≡ None
nothing_known zero p = refl
nothing_known (suc count) zero = refl
nothing_known (suc count) (suc p) = nothing_known count p

none_long : (count : ℕ) → length (replicate {A = Option State} count None) ≡ count
none_long zero = refl
none_long (suc count) = ap (λ (n : ℕ). suc n) (none_long count)

begins : (words : List Word) (last : ℕ) → length words ≡ last + 1 → 0 < last → Stands (known_first words) 0 last first_state None
begins words last long some =
    let none = none_long (length words) in
    record {
      long = known_length words ∙ long;
      here = claim_there (replicate (length words) None) 0 (Some first_state) (omega (arith, none, long));
      failed = claim_elsewhere (replicate (length words) None) 0 last (Some first_state) (λ e. omega (arith, e, some)) ∙ nothing_known (length words) last;
      between = λ p less before. claim_elsewhere (replicate (length words) None) 0 p (Some first_state) (λ e. omega (arith, e, less)) ∙ nothing_known (length words) p;
    }

pub plain_texts_are_faultless : PlainTextsAreFaultless
plain_texts_are_faultless g l ops none =
    let fine = are_fine g ops none in
    let x = plain_text ops in
    let failure = operations_len ops + 1 in
    let long = words_long failure ops in
    let few = fine.few in
    let bounded : Bounded x 0 ops =
    record {
      rows = omega arith;
      few_rows = rows_fit g ops fine.inside;
      buffer = omega arith;
      short_buffer = buffer_fits g ops fine.inside;
      budget = omega arith;
      small_budget = budget_fits g l ops fine.inside few;
    } in
    let well = rest_goes_well g l x failure ops None 0 fine.inside bounded refl (exactly 0) (just_plane 0) (exactly 0) (record { lo = 0; hi = 0 }) (exactly 0) 0 None false None None None true true not_cached no_planes no_planes uncopied in
    ap (λ (o : Option Fault). or_fault o (cond (has_loop x.words) None (followed g (bounds_of x) (known_first x.words) 0 x.words))) (well_shaped ops)
    ∙ (ap (λ (b : Bool). cond b None (followed g (bounds_of x) (known_first x.words) 0 x.words)) (no_loop failure ops)
    ∙ well_followed g x x.words 0 failure (known_first x.words) first_state None (omega (arith, long)) (begins x.words failure (omega (arith, long)) (omega arith)) (are_led failure ops) well)

-- a refusal would tell a fault, or a loop
pub plain_texts_are_accepted : PlainTextsAreAccepted
plain_texts_are_accepted g l ops none fault (inl is) = (let clash = sym (plain_texts_are_faultless g l ops none) ∙ is in absurd cc)
plain_texts_are_accepted g l ops none fault (inr loops) = (let clash = sym (no_loop (operations_len ops + 1) ops) ∙ loops.loops in absurd cc)
