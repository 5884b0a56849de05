-- What is known of the last word, to which failures lead: it may end, whatever states met there.
use Rattle.std.proofs.Common.{◌≡◌, Bool, true, false, not, ◌||◌, cond, Option, Some, None, refl, ap, ◌∙◌}
use Rattle.std.specs.Prelude.{is_none}
use Rattle.std.proofs.lemmas.Bool.{not-true, or_from, or_parts as neither}
use Rattle.nand_geometry.specs.declared.parts.Parts.{Parts}
use Rattle.micro_word.specs.declared.word.Word.TheVariants.{End}
use Rattle.micro_word.specs.Text.{Microprogram}
use Rattle.micro_claims.specs.declared.place.Place.{Place}
use Rattle.micro_claims.specs.declared.place.Place.TheVariants.{Closed, Unknown}
use Rattle.micro_claims.specs.declared.queued_rows.QueuedRows.{QueuedRows}
use Rattle.micro_claims.specs.declared.queued_rows.QueuedRows.TheVariants.{NoRows, SomeRows, SomeReads, AnyRows}
use Rattle.micro_claims.specs.declared.state.State.{State}
use Rattle.micro_claims.specs.State.{bounds_of, may_be_31}
use Rattle.micro_claims.specs.Against.{is_open_place, may_be_queued, may_be_unready}
use Rattle.micro_claims.specs.Order.{same_place}
use Rattle.micro_claims.specs.Joins.{joined, joined_rows}
use Rattle.micro_claims.specs.Reasons.{reason_against, breaks_cycle_forbidden, breaks_address_unaligned, breaks_handover_in_sequence, breaks_buffer_passed, breaks_row_or_plane_outside, breaks_column_too_large, breaks_no_status, breaks_ends_too_soon, breaks_over_budget, breaks_command_not_allowed}
use Rattle.micro_claims.proofs.Sets.{has_either}
use Rattle.micro_walk.specs.Faults.{met, reason_at}

-- what no way leads to may stand there, and what is known to be idle
abbrev pub may_end : Option State → Bool
may_end None = true
may_end (Some s) = not (may_be_unready s)

closed_place : (p q : Place) (same : Bool) → is_open_place p ≡ false → is_open_place q ≡ false → is_open_place (cond same p (cond (is_open_place p || is_open_place q) Unknown Closed)) ≡ false
closed_place p q true hp hq = hp
closed_place p q false hp hq = rw (hp, hq) refl

no_rows : (q r : QueuedRows) → may_be_queued q ≡ false → may_be_queued r ≡ false → may_be_queued (joined_rows q r) ≡ false
no_rows NoRows NoRows hq hr = refl
no_rows NoRows (SomeRows erase planes d) hq hr = absurd cc
no_rows NoRows (SomeReads planes surely d) hq hr = absurd cc
no_rows NoRows AnyRows hq hr = absurd cc
no_rows (SomeRows erase planes d) r hq hr = absurd cc
no_rows (SomeReads planes surely d) r hq hr = absurd cc
no_rows AnyRows r hq hr = absurd cc

-- two states that may end meet in one that may end
pub ready_joined : (s t : State) → may_be_unready s ≡ false → may_be_unready t ≡ false → may_be_unready (joined s t) ≡ false
unfolding joined
ready_joined s t hs ht =
    let s0 = neither (s.lun.busy || is_open_place s.target.tail || may_be_queued s.lun.queue || may_be_31 s.lun.last) s.lun.programming hs in
    let s1 = neither (s.lun.busy || is_open_place s.target.tail || may_be_queued s.lun.queue) (may_be_31 s.lun.last) s0.0 in
    let s2 = neither (s.lun.busy || is_open_place s.target.tail) (may_be_queued s.lun.queue) s1.0 in
    let s3 = neither s.lun.busy (is_open_place s.target.tail) s2.0 in
    let t0 = neither (t.lun.busy || is_open_place t.target.tail || may_be_queued t.lun.queue || may_be_31 t.lun.last) t.lun.programming ht in
    let t1 = neither (t.lun.busy || is_open_place t.target.tail || may_be_queued t.lun.queue) (may_be_31 t.lun.last) t0.0 in
    let t2 = neither (t.lun.busy || is_open_place t.target.tail) (may_be_queued t.lun.queue) t1.0 in
    let t3 = neither t.lun.busy (is_open_place t.target.tail) t2.0 in
    or_from _ _
    (or_from _ _
    (or_from _ _
    (or_from _ _ (or_from _ _ s3.0 t3.0) (closed_place s.target.tail t.target.tail (same_place s.target.tail t.target.tail) s3.1 t3.1))
    (no_rows s.lun.queue t.lun.queue s2.1 t2.1))
    (has_either 1 s.lun.last.0 t.lun.last.0 ∙ or_from _ _ s1.1 t1.1))
    (or_from _ _ s0.1 t0.1)

pub met_may_end : (f : Option State) (t : State) → may_end f ≡ true → may_be_unready t ≡ false → may_end (Some (met f t)) ≡ true
met_may_end None t h k = ap not k
met_may_end (Some s) t h k = ap not (ready_joined s t (not-true (may_be_unready s) h) k)

-- then nothing is against an `end`
pub end_is_fine : (g : Parts) (x : Microprogram) (f : Option State) → may_end f ≡ true → is_none (reason_at g (bounds_of x) f (End 1)) ≡ true
unfolding reason_against breaks_cycle_forbidden breaks_address_unaligned breaks_handover_in_sequence breaks_buffer_passed breaks_row_or_plane_outside breaks_column_too_large breaks_no_status breaks_ends_too_soon breaks_over_budget breaks_command_not_allowed
end_is_fine g x None h = refl
end_is_fine g x (Some s) h = let ready = not-true (may_be_unready s) h in rw (ready) refl
