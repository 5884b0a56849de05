-- What two states both claim is claimed by either.
use Rattle.std.proofs.Common.{◌≡◌, ℕ, Bool, true, false, ◌&&◌, ◌||◌, not, cond, Option, Some, None, refl, sym, ap, ◌∙◌, subst, arith, eq-eqb}
use Rattle.std.specs.Prelude.{nat_le, min, max, bit_and, bit_or}
use Rattle.std.specs.Int.Bits.{and_self}
use Rattle.std.proofs.lemmas.Nat.{and_assoc, and_comm}
use Rattle.std.proofs.lemmas.Bool.Decides.{nat_tests}
use Rattle.std.proofs.lemmas.Bool.{and_from}
use Rattle.onfi_cycle.proofs.Booleans.{eqb_self}
use Rattle.micro_claims.specs.Spans.{Span}
use Rattle.micro_claims.specs.declared.growth.Growth.{Growth}
use Rattle.micro_claims.specs.declared.planes.Planes.{Planes}
use Rattle.micro_claims.specs.Planes.{no_planes, either_plane, common_planes}
use Rattle.micro_claims.specs.declared.state.State.{State}
use Rattle.micro_claims.specs.declared.registers.Registers.{Registers}
use Rattle.micro_claims.specs.declared.known_target.KnownTarget.{KnownTarget}
use Rattle.micro_claims.specs.declared.known_lun.KnownLun.{KnownLun}
use Rattle.micro_claims.specs.declared.place.Place.{Place}
use Rattle.micro_claims.specs.declared.place.Place.TheVariants.{Closed, After, InData, InColumn, InFeatures, Unknown}
use Rattle.micro_claims.specs.declared.drift.Drift.{Drift}
use Rattle.micro_claims.specs.declared.named_row.NamedRow.{NamedRow}
use Rattle.micro_claims.specs.declared.shown.Shown.{Shown}
use Rattle.micro_claims.specs.declared.held.Held.{Held}
use Rattle.micro_claims.specs.declared.output_column.OutputColumn.{OutputColumn}
use Rattle.micro_claims.specs.declared.queued_rows.QueuedRows.{QueuedRows}
use Rattle.micro_claims.specs.declared.queued_rows.QueuedRows.TheVariants.{NoRows, SomeRows, SomeReads, AnyRows}
use Rattle.micro_claims.specs.Against.{same_test, is_open_place}
use Rattle.micro_claims.specs.Order.{is_bound_within, is_growth_within, is_span_within, may_within, are_planes_within, same_place, is_place_within, same_drift_as, is_drift_within, are_registers_within, is_column_within, is_name_within, is_named_within, is_shows_within, is_target_within, is_register_within, is_output_within, are_rows_within, is_lun_within, is_state_within, are_copies_within}
use Rattle.micro_claims.specs.Joins.{greater_bound, joined_growth, joined_span, joined_registers, joined_place, both_know, joined_drift, joined_name, joined_shown, joined_target, joined_held, joined_output, joined_rows, joined_lun, joined, JoinsClaimLess, joined_copies}
use Rattle.micro_claims.specs.Sets.{has}
use Rattle.micro_claims.proofs.Sets.{has_self, has_first, has_second}
use Rattle.micro_walk.proofs.Shapes.{same_is, drift_is}
use Rattle.micro_claims.specs.declared.copies.Copies.{Copies}

-- both of two claims are at least what is claimed
record Both (a b : Bool) : Type 0 where
  one : a ≡ true
  other : b ≡ true

both_and : (a b c d : Bool) → Both a b → Both c d → Both (a && c) (b && d)
both_and a b c d p q = record { one = and_from a c p.one q.one; other = and_from b d p.other q.other }

-- 1. numbers

at_least : (a b : ℕ) → Both (nat_le (min a b) a) (nat_le (min a b) b)
at_least a b = record { one = grind (arith, nat_tests); other = grind (arith, nat_tests) }

at_most : (a b : ℕ) → Both (nat_le a (max a b)) (nat_le b (max a b))
at_most a b = record { one = grind (arith, nat_tests); other = grind (arith, nat_tests) }

bounds_join : (a b : Option ℕ) → Both (is_bound_within a (greater_bound a b)) (is_bound_within b (greater_bound a b))
bounds_join (Some m) (Some n) = at_most m n
bounds_join (Some m) None = record { one = refl; other = refl }
bounds_join None b = record { one = refl; other = refl }

growths_join : (d e : Option Growth) → Both (is_growth_within d (joined_growth d e)) (is_growth_within e (joined_growth d e))
growths_join (Some d) (Some e) = both_and _ _ _ _ (at_least d.lo e.lo) (bounds_join d.hi e.hi)
growths_join (Some d) None = record { one = refl; other = refl }
growths_join None e = record { one = refl; other = refl }

spans_join : (s t : Span) → Both (is_span_within s (joined_span s t)) (is_span_within t (joined_span s t))
spans_join s t = both_and _ _ _ _ (at_least s.lo t.lo) (both_and _ _ _ _ (bounds_join s.hi t.hi) (growths_join s.grown t.grown))

-- 2. what may be, and what is known

either_may : (b c : Bool) → Both (may_within b (b || c)) (may_within c (b || c))
either_may true true = record { one = refl; other = refl }
either_may true false = record { one = refl; other = refl }
either_may false true = record { one = refl; other = refl }
either_may false false = record { one = refl; other = refl }

both_must : (b c : Bool) → Both (may_within (b && c) b) (may_within (b && c) c)
both_must true true = record { one = refl; other = refl }
both_must true false = record { one = refl; other = refl }
both_must false c = record { one = refl; other = refl }

sets_join : (a b : ℕ) → Both (has a (bit_or a b)) (has b (bit_or a b))
sets_join a b = record { one = has_first a b; other = has_second a b }

planes_join : (p q : Planes) → Both (are_planes_within p (either_plane p q)) (are_planes_within q (either_plane p q))
planes_join p q = sets_join p.0 q.0

-- what is in both is in either
common_join : (p q : Planes) → Both (are_planes_within (common_planes p q) p) (are_planes_within (common_planes p q) q)
common_join p q = record { one = eq-eqb _ _ (ap (bit_and p.0) (and_comm p.0 q.0) ∙ (in_right q.0 p.0 ∙ and_comm q.0 p.0)); other = eq-eqb _ _ (in_right p.0 q.0) }
  where
    in_right : (a b : ℕ) → bit_and b (bit_and a b) ≡ bit_and a b
    in_right a b = ap (bit_and b) (and_comm a b) ∙ (sym (and_assoc a b b) ∙ (ap (λ (n : ℕ). bit_and n a) (and_self b) ∙ and_comm b a))

-- 3. the registers

registers_join : (s t : Registers) → Both (are_registers_within s (joined_registers s t)) (are_registers_within t (joined_registers s t))
registers_join s t =
    both_and _ _ _ _ (spans_join s.column t.column)
    (both_and _ _ _ _ (planes_join s.planes t.planes)
    (both_and _ _ _ _ (spans_join s.index t.index)
    (both_and _ _ _ _ (at_least s.page.lo t.page.lo)
    (both_and _ _ _ _ (at_most s.page.hi t.page.hi)
    (both_and _ _ _ _ (spans_join s.place t.place)
    (both_and _ _ _ _ (spans_join s.cost t.cost) (both_must s.polled t.polled)))))))

-- 4. the target

place_itself : (p : Place) → same_place p p ≡ true → is_place_within p p ≡ true
place_itself Unknown h = refl
place_itself Closed h = refl
place_itself (After c n) h = h
place_itself InData h = refl
place_itself (InColumn n) h = h
place_itself (InFeatures n) h = h

places_join : (p q : Place) → Both (is_place_within p (joined_place p q)) (is_place_within q (joined_place p q))
places_join p q = at (same_place p q) refl (is_open_place p) refl (is_open_place q) refl
  where
    at : (same : Bool) → same_place p q ≡ same → (a : Bool) → is_open_place p ≡ a → (b : Bool) → is_open_place q ≡ b → Both (is_place_within p (cond same p (cond (a || b) Unknown Closed))) (is_place_within q (cond same p (cond (a || b) Unknown Closed)))
    at true e a ea b eb =
        let is : p ≡ q = same_is p q e in
        let here : is_place_within p p ≡ true = place_itself p (ap (same_place p) is ∙ e) in
        record { one = here; other = subst (λ (x : Place). is_place_within x p ≡ true) is here }
    at false e true ea b eb = record { one = refl; other = refl }
    at false e false ea true eb = record { one = refl; other = refl }
    at false e false ea false eb = record { one = ap not ea; other = ap not eb }

columns_join : (a b : Option Span) → Both (is_column_within a (both_know joined_span a b)) (is_column_within b (both_know joined_span a b))
columns_join (Some s) (Some t) = spans_join s t
columns_join (Some s) None = record { one = refl; other = refl }
columns_join None b = record { one = refl; other = refl }

drift_itself : (d e : Drift) → same_drift_as d e ≡ true → Both (same_drift_as d d) (same_drift_as e d)
drift_itself d e h =
    let is : d ≡ e = drift_is d e h in
    let here : same_drift_as d d ≡ true = ap (same_drift_as d) is ∙ h in
    record { one = here; other = subst (λ (x : Drift). same_drift_as x d ≡ true) is here }

drifts_join : (a b : Option Drift) → Both (is_drift_within a (joined_drift a b)) (is_drift_within b (joined_drift a b))
drifts_join (Some d) (Some e) = at (same_drift_as d e) refl
  where
    at : (same : Bool) → same_drift_as d e ≡ same → Both (is_drift_within (Some d) (cond same (Some d) None)) (is_drift_within (Some e) (cond same (Some d) None))
    at true h = drift_itself d e h
    at false h = record { one = refl; other = refl }
drifts_join (Some d) None = record { one = refl; other = refl }
drifts_join None b = record { one = refl; other = refl }

names_join : (n m : NamedRow) → Both (is_name_within n (joined_name n m)) (is_name_within m (joined_name n m))
names_join n m =
    both_and _ _ _ _ (spans_join n.index m.index)
    (both_and _ _ _ _ (planes_join n.planes m.planes)
    (both_and _ _ _ _ (at_most n.page m.page) (drifts_join n.drift m.drift)))

named_join : (a b : Option NamedRow) → Both (is_named_within a (both_know joined_name a b)) (is_named_within b (both_know joined_name a b))
named_join (Some n) (Some m) = names_join n m
named_join (Some n) None = record { one = refl; other = refl }
named_join None b = record { one = refl; other = refl }

shows_join : (a b : Option Shown) → Both (is_shows_within a (both_know joined_shown a b)) (is_shows_within b (both_know joined_shown a b))
shows_join (Some w) (Some x) = sets_join w.0 x.0
shows_join (Some w) None = record { one = refl; other = refl }
shows_join None b = record { one = refl; other = refl }

targets_join : (s t : KnownTarget) → Both (is_target_within s (joined_target s t)) (is_target_within t (joined_target s t))
targets_join s t =
    both_and _ _ _ _ (places_join s.tail t.tail)
    (both_and _ _ _ _ (columns_join s.column t.column)
    (both_and _ _ _ _ (named_join s.named t.named) (shows_join s.shows t.shows)))

-- 5. the LUN

registered_join : (a b : Option Held) → Both (is_register_within a (both_know joined_held a b)) (is_register_within b (both_know joined_held a b))
registered_join (Some r) (Some q) = sets_join r.0 q.0
registered_join (Some r) None = record { one = refl; other = refl }
registered_join None b = record { one = refl; other = refl }

outputs_join : (a b : Option OutputColumn) → Both (is_output_within a (both_know joined_output a b)) (is_output_within b (both_know joined_output a b))
outputs_join (Some k) (Some m) = both_and _ _ _ _ (spans_join k.at m.at) (either_may k.read m.read)
outputs_join (Some k) None = record { one = refl; other = refl }
outputs_join None b = record { one = refl; other = refl }

test_itself : (a b : Bool) → same_test a b ≡ true → Both (same_test a a) (same_test b a)
test_itself true true h = record { one = refl; other = refl }
test_itself false false h = record { one = refl; other = refl }
test_itself true false h = absurd cc
test_itself false true h = absurd cc

rows_itself : (erase : Bool) (planes : Planes) (d : Drift) → are_rows_within (SomeRows erase planes d) (SomeRows erase planes d) ≡ true
rows_itself erase planes d = and_from _ _ (test erase) (and_from _ _ (has_self planes.0) (drift d))
  where
    test : (a : Bool) → same_test a a ≡ true
    test true = refl
    test false = refl

    drift : (e : Drift) → same_drift_as e e ≡ true
    drift e = and_from _ _ (eqb_self e.ahead) (eqb_self e.behind)

-- reads of which none is sure any more
reads_itself : (planes surely : Planes) (d : Drift) → are_rows_within (SomeReads planes surely d) (SomeReads planes no_planes d) ≡ true
reads_itself planes surely d = and_from _ _ (none_within surely) (and_from _ _ (has_self planes.0) (drift d))
  where
    none_within : (p : Planes) → are_planes_within no_planes p ≡ true
    none_within p = eq-eqb _ _ (and_comm p.0 0)

    drift : (e : Drift) → same_drift_as e e ≡ true
    drift e = and_from _ _ (eqb_self e.ahead) (eqb_self e.behind)

queues_join : (a b : QueuedRows) → Both (are_rows_within a (joined_rows a b)) (are_rows_within b (joined_rows a b))
queues_join NoRows NoRows = record { one = refl; other = refl }
queues_join NoRows (SomeRows kind ps e) = record { one = refl; other = rows_itself kind ps e }
queues_join NoRows (SomeReads qs some e) = record { one = has_self 0; other = reads_itself qs some e }
queues_join NoRows AnyRows = record { one = refl; other = refl }
queues_join (SomeReads planes surely d) NoRows = record { one = reads_itself planes surely d; other = has_self 0 }
queues_join (SomeReads planes surely d) (SomeRows kind ps e) = record { one = refl; other = refl }
queues_join (SomeReads planes surely d) AnyRows = record { one = refl; other = refl }
queues_join (SomeReads planes surely d) (SomeReads qs some e) = at (same_drift_as d e) refl
  where
    joins : Bool → QueuedRows
    joins b = cond b (SomeReads (either_plane planes qs) (common_planes surely some) d) AnyRows

    at : (b : Bool) → same_drift_as d e ≡ b → Both (are_rows_within (SomeReads planes surely d) (joins b)) (are_rows_within (SomeReads qs some e) (joins b))
    at true h = both_and _ _ _ _ (common_join surely some) (both_and _ _ _ _ (planes_join planes qs) (drift_itself d e h))
    at false h = record { one = refl; other = refl }
queues_join (SomeRows erase planes d) (SomeReads qs some e) = record { one = refl; other = refl }
queues_join (SomeRows erase planes d) NoRows = record { one = rows_itself erase planes d; other = refl }
queues_join (SomeRows erase planes d) (SomeRows kind ps e) = at (same_test erase kind) refl (same_drift_as d e) refl
  where
    joins : Bool → Bool → QueuedRows
    joins a b = cond (a && b) (SomeRows erase (either_plane planes ps) d) AnyRows

    at : (a : Bool) → same_test erase kind ≡ a → (b : Bool) → same_drift_as d e ≡ b → Both (are_rows_within (SomeRows erase planes d) (joins a b)) (are_rows_within (SomeRows kind ps e) (joins a b))
    at true ha true hb = both_and _ _ _ _ (test_itself erase kind ha) (both_and _ _ _ _ (planes_join planes ps) (drift_itself d e hb))
    at true ha false hb = record { one = refl; other = refl }
    at false ha b hb = record { one = refl; other = refl }
queues_join (SomeRows erase planes d) AnyRows = record { one = refl; other = refl }
queues_join AnyRows b = record { one = refl; other = refl }

copies_join : (c d : Copies) → Both (are_copies_within c (joined_copies c d)) (are_copies_within d (joined_copies c d))
copies_join c d =
    both_and _ _ _ _ (common_join c.even d.even)
    (both_and _ _ _ _ (common_join c.odd d.odd)
    (both_and _ _ _ _ (both_must c.copying d.copying)
    (both_and _ _ _ _ (both_must c.keeps d.keeps) (either_may c.holds d.holds))))

luns_join : (s t : KnownLun) → Both (is_lun_within s (joined_lun s t)) (is_lun_within t (joined_lun s t))
luns_join s t =
    both_and _ _ _ _ (either_may s.busy t.busy)
    (both_and _ _ _ _ (registered_join s.register t.register)
    (both_and _ _ _ _ (outputs_join s.column t.column)
    (both_and _ _ _ _ (queues_join s.queue t.queue)
    (both_and _ _ _ _ (sets_join s.last.0 t.last.0)
    (both_and _ _ _ _ (spans_join s.cached.index t.cached.index)
    (both_and _ _ _ _ (spans_join s.cached.page t.cached.page) (both_and _ _ _ _ (common_join s.held t.held) (both_and _ _ _ _ (common_join s.array t.array)
    (both_and _ _ _ _ (copies_join s.copies t.copies) (either_may s.programming t.programming))))))))))

-- 6. states

states_join : (s t : State) → Both (is_state_within s (joined s t)) (is_state_within t (joined s t))
unfolding is_state_within joined
states_join s t = both_and _ _ _ _ (registers_join s.registers t.registers) (both_and _ _ _ _ (targets_join s.target t.target) (luns_join s.lun t.lun))

pub joins_claim_less : JoinsClaimLess
joins_claim_less s t = let both = states_join s t in (both.one, both.other)
