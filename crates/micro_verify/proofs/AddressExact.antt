-- An address is exact: where it is refused its cause stands, and else it goes and what it leaves is mirrored.
use Rattle.std.proofs.lemmas.Bool.Decides.{nat_tests}
use Rattle.std.proofs.Common.{◌≡◌, ℕ, ◌+◌, ◌-◌, ◌≤◌, ◌==◌, Bool, true, false, ◌&&◌, ◌||◌, cond, not, ltb, nat_le, Some, length, refl, sym, ap, ◌∙◌, arith, eqb-true, ◌<◌}
use Rattle.std.proofs.lemmas.Bool.{not-false, and_parts, or_parts}
use Rattle.onfi_cycle.proofs.Booleans.{and_rest}
use Rattle.nand_geometry.specs.declared.parts.Parts.{Parts}
use Rattle.nand_geometry.specs.Optional.{is_wide}
use Rattle.nand_geometry.specs.Limits.{page_len, indices, planes}
use Rattle.onfi_cycle.specs.declared.command.Command.{Command}
use Rattle.onfi_cycle.specs.declared.command.Command.TheVariants.{ReadId, ReadParameterPage}
use Rattle.onfi_cycle.specs.Command.{address_cycles, reads_identity}
use Rattle.onfi_cycle.specs.Rules.{may_change_column}
use Rattle.onfi_cycle.specs.Sequence.{input_column}
use Rattle.onfi_cycle.specs.Channel.{Channel}
use Rattle.micro_word.specs.declared.word.Word.TheVariants.{Address as AddressWord}
use Rattle.micro_word.specs.Text.{Microprogram}
use Rattle.micro_claims.specs.declared.state.State.{State}
use Rattle.micro_claims.specs.declared.place.Place.{Place}
use Rattle.micro_claims.specs.declared.place.Place.TheVariants.{Closed, After, InData, InColumn, InFeatures, Unknown}
use Rattle.micro_claims.specs.Spans.{only}
use Rattle.micro_claims.specs.Against.{first_address, is_inside_address, byte_of_column, is_identity_byte, takes_identity, surely_past, identity_refused, row_refused, begins_elsewhere, address_out_of_place, column_past, row_outside}
use Rattle.micro_claims.specs.Reasons.{breaks_cycle_forbidden, breaks_address_unaligned, breaks_row_or_plane_outside, breaks_column_too_large, reason_against, breaks_handover_in_sequence, breaks_buffer_passed, breaks_no_status, breaks_ends_too_soon, breaks_command_not_allowed}
use Rattle.micro_claims.specs.Accepts.{state_after}
use Rattle.micro_program.specs.Program.{Job, column_now, index_now, plane_now}
use Rattle.micro_claims.proofs.Fits.{has_column, has_row, RowIs, IsNow, now_of, is_place}
use Rattle.micro_claims.proofs.Sounding.{no_reasons}
use Rattle.micro_verify.proofs.AddressTests.{carries_is, more_left, taken}
use Rattle.micro_verify.specs.Lazy.{lone_job, Run}
use Rattle.micro_verify.proofs.Lone.{Lone, IsLone}
use Rattle.micro_verify.proofs.Mirrors.{Mirrors, TailMirror, PlaceMirror, is_base_place, NameIs, BoundIs, is_read_column}
use Rattle.micro_verify.proofs.Causes.{Goes, ExactWord, IsFit, reason_holds, reason_is, cost_cause, lowest_column_too_large}
use Rattle.micro_verify.proofs.IndexExact.{only_is}
use Rattle.micro_verify.proofs.AddressCauses.{outside_is, elsewhere_there}
use Rattle.micro_verify.proofs.AddressStops.{limit_of}
use Rattle.micro_verify.proofs.AddressIdentity.{asked, asks, asks_there, asked_is, base_identity, base_takes}
use Rattle.micro_verify.proofs.AddressIdentityGoes.{goes_id, goes_parameters}
use Rattle.micro_verify.proofs.OpenerStops.{AddressAt, Behind, opener_at, limit_is, limit_small, page_small}
use Rattle.micro_verify.proofs.AddressRefused.{past_stops, refused_stops}
use Rattle.micro_verify.proofs.AddressPasses.{place_is_clear}
use Rattle.micro_verify.proofs.AddressesGo.{opener_goes, column_goes}
use Rattle.onfi_cycle.specs.declared.tail_facts.TailFacts.{TailFacts}
use Rattle.micro_claims.specs.declared.refusal.Reason.{Reason}
use Rattle.micro_claims.specs.declared.refusal.Reason.TheVariants.{CycleForbidden, AddressUnaligned, RowOrPlaneOutside, ColumnTooLarge, OverBudget}
use Rattle.micro_claims.specs.State.{bounds_of}
use Rattle.micro_verify.specs.Cause.{Cause, WordStops, is_of_cycle_forbidden, begins_wrong, is_outside, is_misplaced, lacks_bytes, wants_identity, tail_now}

-- 1. each reason has its cause

-- the row is there where it is needed and isn't outside
row_inside : (s : Channel) (text : Microprogram) (r : Run) (from count : ℕ) → IsFit s text → is_outside s.geometry text.rows r (AddressWord from count) ≡ false → ltb 2 (from + count) ≡ true → (index_now 0 r.done < indices s.geometry) × (plane_now r.done < planes s.geometry)
row_inside s text r from count k inside e =
    let both = or_parts (nat_le text.rows (index_now 0 r.done)) (nat_le (planes s.geometry) (plane_now r.done)) (and_rest (ltb 2 (from + count)) _ e inside) in
    let index : index_now 0 r.done < text.rows = grind (arith, nat_tests, both.0) in
    let top = k.inside in
    (omega (arith, index, top), grind (arith, nat_tests, both.1))

address_cause : (s : Channel) (text : Microprogram) (v : State) (r : Run) (c : Lone) (from count : ℕ) → 1 ≤ count → from + count ≤ 5 → IsFit s text → IsLone s r.past c → Mirrors s.geometry (lone_job s.geometry text) v r.done c → (reason : Reason) → reason_against s.geometry (bounds_of text) v (AddressWord from count) ≡ Some reason → Cause s (lone_job s.geometry text) r (AddressWord from count) reason
unfolding breaks_cycle_forbidden breaks_address_unaligned breaks_handover_in_sequence breaks_buffer_passed breaks_row_or_plane_outside breaks_column_too_large breaks_no_status breaks_ends_too_soon breaks_command_not_allowed
address_cause s text v r c from count some few k is m reason e = by reason (reason_is s.geometry text v (AddressWord from count) reason e) e
  where
    g : Parts
    g = s.geometry

    j : Job
    j = lone_job g text

    outside : row_outside g text.rows v from count ≡ is_outside g text.rows r (AddressWord from count)
    outside = outside_is g text.rows v r from count k.rows m.registers

    word : is_outside g text.rows r (AddressWord from count) ≡ false → AddressAt s text v r c from count
    word inside = record { fit = k; lone = is; mirrors = m; some = some; few = few; row = row_inside s text r from count k inside }

    stops : breaks_cycle_forbidden g v (AddressWord from count) ≡ true → lacks_bytes g text r (AddressWord from count) ≡ false → WordStops s j r (AddressWord from count) is_of_cycle_forbidden
    stops h bytes =
        let two = or_parts (is_misplaced g r (AddressWord from count) || is_outside g text.rows r (AddressWord from count)) (wants_identity (tail_now r) && ltb 1 from) bytes in
        let one = or_parts (is_misplaced g r (AddressWord from count)) (is_outside g text.rows r (AddressWord from count)) two.0 in
        refused_stops s text v r c from count (word one.1) (sym (ap (λ (t : TailFacts). begins_wrong t from count) is.facts) ∙ one.0)
        (λ wants. let first = and_rest (wants_identity (tail_now r)) (ltb 1 from) (ap wants_identity is.facts ∙ wants) two.1 in grind (arith, nat_tests, first)) h

    by : (reason : Reason) → reason_holds g text v (AddressWord from count) reason ≡ true → reason_against g (bounds_of text) v (AddressWord from count) ≡ Some reason → Cause s j r (AddressWord from count) reason
    by CycleForbidden h e = λ bytes. stops h bytes
    by AddressUnaligned h e = ap (λ (t : TailFacts). begins_wrong t from count) is.facts ∙ elsewhere_there m.tail.place m.tail.address c.facts from count m.tail.is (sym (ap (begins_elsewhere from) m.tail.single) ∙ h)
    by RowOrPlaneOutside h e = sym outside ∙ h
    by ColumnTooLarge h e = past_stops s text v r c from count (word (sym outside ∙ (lowest_column_too_large g text v (AddressWord from count) e).no_row_or_plane_outside)) h
    by OverBudget h e = cost_cause g v r (AddressWord from count) text.budget k.budget m.registers h
    by _ h e = cc

-- 2. the one address of 90h or ECh

-- the byte is the one that 90h or ECh takes
record OneByte (r : Run) (from count : ℕ) (o : Command) : Type 0 where
  one : count ≡ 1
  low : from ≤ 1
  takes : base_identity o (byte_of_column from (column_now r.done)) ≡ true

one_byte : (s : Channel) (text : Microprogram) (v : State) (r : Run) (c : Lone) (from count : ℕ) (o : Command) (n : ℕ) → Mirrors s.geometry (lone_job s.geometry text) v r.done c → is_wide s.geometry.optional ≡ false → asks o ≡ true → identity_refused s.geometry v from count (After o n) ≡ false → OneByte r from count o
one_byte s text v r c from count o n m base asks_o clear =
    let known : only v.registers.column ≡ Some (column_now r.done) = only_is (column_now r.done) v.registers.column (let x = m.registers.column_low in omega (arith, x)) m.registers.column in
    let two = or_parts (ltb 1 s.geometry.luns || not (count == 1)) (not (is_identity_byte s.geometry o from (only v.registers.column))) clear in
    let alone = or_parts (ltb 1 s.geometry.luns) (not (count == 1)) two.0 in
    let byte = and_parts (nat_le from 1) (takes_identity s.geometry o (byte_of_column from (column_now r.done))) (sym (ap (is_identity_byte s.geometry o from) known) ∙ not-false _ two.1) in
    record { one = eqb-true count 1 (not-false _ alone.1); low = let x = byte.0 in grind (arith, nat_tests, x); takes = sym (base_takes s.geometry o (byte_of_column from (column_now r.done)) base asks_o) ∙ byte.1 }

-- 90h or ECh
identity_goes : (s : Channel) (text : Microprogram) (v : State) (r : Run) (c : Lone) (from count : ℕ) (o : Command) (n : ℕ) → IsFit s text → IsLone s r.past c → Mirrors s.geometry (lone_job s.geometry text) v r.done c → asks o ≡ true → c ≡ asked o c.view → v.target.tail ≡ After o n → OneByte r from count o → Goes s text (state_after s.geometry v (AddressWord from count)) r (AddressWord from count)
identity_goes s text v r c from count ReadId n k is m reads here single b = goes_id s text v r c from count n k is m here single b.one b.low b.takes
identity_goes s text v r c from count ReadParameterPage n k is m reads here single b = goes_parameters s text v r c from count n k is m here single b.one b.low b.takes
identity_goes s text v r c from count _ n k is m reads here single b = cc

-- 3. all of them

pub address_exact : (s : Channel) (text : Microprogram) (v : State) (r : Run) (c : Lone) (from count : ℕ) → 1 ≤ count → from + count ≤ 5 → length r.done ≤ 32768 → IsFit s text → IsLone s r.past c → Mirrors s.geometry (lone_job s.geometry text) v r.done c → ExactWord s text v r (AddressWord from count)
unfolding breaks_cycle_forbidden breaks_address_unaligned breaks_row_or_plane_outside breaks_column_too_large
address_exact s text v r c from count some few many k is m =
    record {
      cause = address_cause s text v r c from count some few k is m;
      goes = λ e f.
          let clear = no_reasons s.geometry text v (AddressWord from count) e in
          at t.place t.single t.is t.now t.column t.row t.named t.changes t.base (word clear.no_row_or_plane_outside)
          (sym (ap (address_out_of_place g v from count) t.single) ∙ clear.no_cycle_forbidden) (sym (ap (begins_elsewhere from) t.single) ∙ clear.no_address_unaligned) (sym (ap (column_past g v from count) t.single) ∙ clear.no_column_too_large);
    }
  where
    g : Parts
    g = s.geometry

    j : Job
    j = lone_job g text

    t : TailMirror g j v.target (now_of j r.done) c
    t = m.tail

    word : breaks_row_or_plane_outside g text.rows v (AddressWord from count) ≡ false → AddressAt s text v r c from count
    word inside = record { fit = k; lone = is; mirrors = m; some = some; few = few; row = row_inside s text r from count k (sym (outside_is g text.rows v r from count k.rows m.registers) ∙ inside) }

    at : (p : Place) → v.target.tail ≡ p → PlaceMirror p m.tail.address c.facts → (is_inside_address p ≡ true → IsNow g j m.tail.address (now_of j r.done) p) → (has_column p ≡ true → BoundIs (input_column c.facts) v.target.column) → (has_row p ≡ true → RowIs g j m.tail.address) → (has_row p ≡ true → NameIs g m.tail.address (index_now 0 r.done) v.target.named) → (is_read_column p ≡ true → may_change_column c.view ≡ true) → is_base_place p ≡ true → AddressAt s text v r c from count → address_out_of_place g v from count p ≡ false → begins_elsewhere from p ≡ false → column_past g v from count p ≡ false → Goes s text (state_after g v (AddressWord from count)) r (AddressWord from count)
    at Closed single is_place now column row named changes base w out elsewhere past = cc
    at InData single is_place now column row named changes base w out elsewhere past = cc
    at Unknown single is_place now column row named changes base w out elsewhere past = absurd is_place
    at (InFeatures n) single is_place now column row named changes base w out elsewhere past = absurd is_place
    at (InColumn n) single is_place now column row named changes base w out elsewhere past =
        column_goes s text v r c from count n w (place_is_clear s text v r c from count (page_len g) (InColumn n) m (page_small g k.alone.is_channel.limits) refl refl out elsewhere past) single
        (record { old = m.tail.address; begun = is_place; now = now; row = row refl; named = named refl })
    at (After o n) single is_place now column row named changes base w out elsewhere past = on (reads_identity o) refl
      where
        on : (b : Bool) → reads_identity o ≡ b → Goes s text (state_after g v (AddressWord from count)) r (AddressWord from count)
        on true reads =
            let asks_o = asks_there o base reads in
            let rest = cond (surely_past g v from count (After o n)) false (ltb (address_cycles o - n) count || (from == first_address o + n && nat_le 5 (from + count) && row_refused g v (After o n))) in
            let clear = taken (address_cycles o - n == 0) (reads_identity o) (identity_refused g v from count (After o n)) rest reads out in
            identity_goes s text v r c from count o n k is m asks_o (asked_is o n m.tail.address c asks_o is_place) single (one_byte s text v r c from count o n m k.base asks_o clear)
        on false other =
            let carries = carries_is o n is_place.place base other in
            let behind : Behind s text r c o n = record { old = m.tail.address; opened = is_place; now = now; changes = changes } in
            let clear = place_is_clear s text v r c from count (limit_of g o c.view) (After o n) m (limit_small s k.alone o c.view) (limit_is s text v r c o n m carries changes) other out elsewhere past in
            opener_goes s text v r c from count o n w (opener_at s text v r c from count o n w behind carries (more_left (address_cycles o) n clear.left) clear.begins) many clear single behind column
