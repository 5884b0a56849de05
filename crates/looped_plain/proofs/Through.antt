-- The order of states: a state claims what it claims, and what claims less than less claims less.
use Rattle.std.proofs.Common.{◌≡◌, ℕ, Bool, true, false, ◌&&◌, not, Option, Some, None, refl, sym, subst, arith}
use Rattle.std.specs.Prelude.{nat_le}
use Rattle.std.proofs.lemmas.Bool.Decides.{nat_tests}
use Rattle.std.proofs.lemmas.Bool.{and_from, and_parts}
use Rattle.onfi_cycle.proofs.Booleans.{eqb_self}
use Rattle.micro_claims.specs.Spans.{Span}
use Rattle.micro_claims.specs.declared.growth.Growth.{Growth}
use Rattle.micro_claims.specs.declared.state.State.{State}
use Rattle.micro_claims.specs.declared.registers.Registers.{Registers}
use Rattle.micro_claims.specs.declared.known_target.KnownTarget.{KnownTarget}
use Rattle.micro_claims.specs.declared.known_lun.KnownLun.{KnownLun}
use Rattle.micro_claims.specs.declared.place.Place.{Place}
use Rattle.micro_claims.specs.declared.place.Place.TheVariants.{Closed, After, InData, InColumn, InFeatures, Unknown}
use Rattle.micro_claims.specs.declared.drift.Drift.{Drift}
use Rattle.micro_claims.specs.declared.named_row.NamedRow.{NamedRow}
use Rattle.micro_claims.specs.declared.shown.Shown.{Shown}
use Rattle.micro_claims.specs.declared.held.Held.{Held}
use Rattle.micro_claims.specs.declared.output_column.OutputColumn.{OutputColumn}
use Rattle.micro_claims.specs.declared.queued_rows.QueuedRows.{QueuedRows}
use Rattle.micro_claims.specs.declared.queued_rows.QueuedRows.TheVariants.{NoRows, SomeRows, SomeReads, AnyRows}
use Rattle.micro_claims.specs.Against.{same_test, is_open_place}
use Rattle.micro_claims.specs.Order.{is_bound_within, is_growth_within, is_span_within, may_within, same_place, is_place_within, same_drift_as, is_drift_within, are_registers_within, is_column_within, is_name_within, is_named_within, is_shows_within, is_target_within, is_register_within, is_output_within, are_rows_within, is_lun_within, is_state_within, are_copies_within}
use Rattle.micro_claims.specs.Joins.{joined}
use Rattle.micro_claims.specs.Sets.{has}
use Rattle.micro_claims.proofs.Sets.{has_self, has_more}
use Rattle.micro_walk.proofs.Shapes.{same_is, drift_is}
use Rattle.micro_walk.proofs.Joining.{joins_claim_less}
use Rattle.micro_claims.specs.declared.copies.Copies.{Copies}

-- ---- through a second one to a third

-- three parts of three tests: the first two of each give the third
abbrev Through : (a b c : Bool) → Type 0
Through a b c = a ≡ true → b ≡ true → c ≡ true

pair : (a b c d e f : Bool) → Through a c e → Through b d f → Through (a && b) (c && d) (e && f)
pair a b c d e f p q h k = let ab = and_parts a b h in let cd = and_parts c d k in and_from e f (p ab.0 cd.0) (q ab.1 cd.1)

le_le : (a b c : ℕ) → Through (nat_le a b) (nat_le b c) (nat_le a c)
le_le a b c h k = grind (arith, nat_tests, h, k)

-- the same, told the other way round
ge_ge : (a b c : ℕ) → Through (nat_le b a) (nat_le c b) (nat_le c a)
ge_ge a b c h k = grind (arith, nat_tests, h, k)

bounds : (a b c : Option ℕ) → Through (is_bound_within a b) (is_bound_within b c) (is_bound_within a c)
bounds a b None h k = refl
bounds (Some l) (Some m) (Some n) h k = le_le l m n h k
bounds (Some l) None (Some n) h k = absurd cc
bounds None (Some m) (Some n) h k = absurd cc
bounds None None (Some n) h k = absurd cc

growths : (a b c : Option Growth) → Through (is_growth_within a b) (is_growth_within b c) (is_growth_within a c)
growths a b None h k = refl
growths (Some d) (Some e) (Some f) h k = pair _ _ _ _ _ _ (ge_ge d.lo e.lo f.lo) (bounds d.hi e.hi f.hi) h k
growths (Some d) None (Some f) h k = absurd cc
growths None (Some e) (Some f) h k = absurd cc
growths None None (Some f) h k = absurd cc

spans : (s t u : Span) → Through (is_span_within s t) (is_span_within t u) (is_span_within s u)
spans s t u h k = pair _ _ _ _ _ _ (ge_ge s.lo t.lo u.lo) (pair _ _ _ _ _ _ (bounds s.hi t.hi u.hi) (growths s.grown t.grown u.grown)) h k

mays : (a b c : Bool) → Through (may_within a b) (may_within b c) (may_within a c)
mays false b c h k = refl
mays true true true h k = refl
mays true true false h k = absurd cc
mays true false c h k = absurd cc

sets : (a b c : ℕ) → Through (has a b) (has b c) (has a c)
sets a b c h k = has_more a b c k h

registers : (s t u : Registers) → Through (are_registers_within s t) (are_registers_within t u) (are_registers_within s u)
registers s t u h k =
    pair _ _ _ _ _ _ (spans s.column t.column u.column)
    (pair _ _ _ _ _ _ (sets s.planes.0 t.planes.0 u.planes.0)
    (pair _ _ _ _ _ _ (spans s.index t.index u.index)
    (pair _ _ _ _ _ _ (ge_ge s.page.lo t.page.lo u.page.lo)
    (pair _ _ _ _ _ _ (le_le s.page.hi t.page.hi u.page.hi)
    (pair _ _ _ _ _ _ (spans s.place t.place u.place)
    (pair _ _ _ _ _ _ (spans s.cost t.cost u.cost) (λ a b. mays u.polled t.polled s.polled b a))))))) h k

same_within : (p q r : Place) → same_place q r ≡ true → is_place_within p q ≡ true → is_place_within p r ≡ true
same_within p q r e h = subst (λ (x : Place). is_place_within p x ≡ true) (same_is q r e) h

-- what is within a place that isn't open isn't open
not_open : (p q : Place) → is_place_within p q ≡ true → not (is_open_place q) ≡ true → not (is_open_place p) ≡ true
not_open p Closed h k = h
not_open p Unknown h k = absurd cc
not_open p (After c n) h k = subst (λ (x : Place). not (is_open_place x) ≡ true) (sym (same_is p (After c n) h)) k
not_open p InData h k = absurd cc
not_open p (InColumn n) h k = absurd cc
not_open p (InFeatures n) h k = absurd cc

places : (p q r : Place) → Through (is_place_within p q) (is_place_within q r) (is_place_within p r)
places p q Unknown h k = refl
places p q Closed h k = not_open p q h k
places p q (After c n) h k = same_within p q (After c n) k h
places p q InData h k = same_within p q InData k h
places p q (InColumn n) h k = same_within p q (InColumn n) k h
places p q (InFeatures n) h k = same_within p q (InFeatures n) k h

columns : (a b c : Option Span) → Through (is_column_within a b) (is_column_within b c) (is_column_within a c)
columns a b None h k = refl
columns (Some s) (Some t) (Some u) h k = spans s t u h k
columns (Some s) None (Some u) h k = absurd cc
columns None (Some t) (Some u) h k = absurd cc
columns None None (Some u) h k = absurd cc

drifts : (a b c : Option Drift) → Through (is_drift_within a b) (is_drift_within b c) (is_drift_within a c)
drifts a b None h k = refl
drifts (Some d) (Some e) (Some f) h k = subst (λ (x : Drift). same_drift_as d x ≡ true) (drift_is e f k) h
drifts (Some d) None (Some f) h k = absurd cc
drifts None (Some e) (Some f) h k = absurd cc
drifts None None (Some f) h k = absurd cc

names : (n m o : NamedRow) → Through (is_name_within n m) (is_name_within m o) (is_name_within n o)
names n m o h k =
    pair _ _ _ _ _ _ (spans n.index m.index o.index)
    (pair _ _ _ _ _ _ (sets n.planes.0 m.planes.0 o.planes.0)
    (pair _ _ _ _ _ _ (le_le n.page m.page o.page) (drifts n.drift m.drift o.drift))) h k

named : (a b c : Option NamedRow) → Through (is_named_within a b) (is_named_within b c) (is_named_within a c)
named a b None h k = refl
named (Some n) (Some m) (Some o) h k = names n m o h k
named (Some n) None (Some o) h k = absurd cc
named None (Some m) (Some o) h k = absurd cc
named None None (Some o) h k = absurd cc

shows : (a b c : Option Shown) → Through (is_shows_within a b) (is_shows_within b c) (is_shows_within a c)
shows a b None h k = refl
shows (Some w) (Some x) (Some y) h k = sets w.0 x.0 y.0 h k
shows (Some w) None (Some y) h k = absurd cc
shows None (Some x) (Some y) h k = absurd cc
shows None None (Some y) h k = absurd cc

targets : (s t u : KnownTarget) → Through (is_target_within s t) (is_target_within t u) (is_target_within s u)
targets s t u h k =
    pair _ _ _ _ _ _ (places s.tail t.tail u.tail)
    (pair _ _ _ _ _ _ (columns s.column t.column u.column)
    (pair _ _ _ _ _ _ (named s.named t.named u.named) (shows s.shows t.shows u.shows))) h k

held : (a b c : Option Held) → Through (is_register_within a b) (is_register_within b c) (is_register_within a c)
held a b None h k = refl
held (Some r) (Some q) (Some p) h k = sets r.0 q.0 p.0 h k
held (Some r) None (Some p) h k = absurd cc
held None (Some q) (Some p) h k = absurd cc
held None None (Some p) h k = absurd cc

outputs : (a b c : Option OutputColumn) → Through (is_output_within a b) (is_output_within b c) (is_output_within a c)
outputs a b None h k = refl
outputs (Some l) (Some m) (Some n) h k = pair _ _ _ _ _ _ (spans l.at m.at n.at) (mays l.read m.read n.read) h k
outputs (Some l) None (Some n) h k = absurd cc
outputs None (Some m) (Some n) h k = absurd cc
outputs None None (Some n) h k = absurd cc

tests : (a b c : Bool) → Through (same_test a b) (same_test b c) (same_test a c)
tests true true c h k = k
tests true false c h k = absurd cc
tests false true c h k = absurd cc
tests false false c h k = k

drift_through : (d e f : Drift) → Through (same_drift_as d e) (same_drift_as e f) (same_drift_as d f)
drift_through d e f h k = subst (λ (x : Drift). same_drift_as d x ≡ true) (drift_is e f k) h

rows : (a b c : QueuedRows) → Through (are_rows_within a b) (are_rows_within b c) (are_rows_within a c)
rows a b AnyRows h k = refl
rows NoRows b NoRows h k = refl
rows NoRows b (SomeRows kind ps e) h k = refl
rows NoRows NoRows (SomeReads qs some f) h k = k
rows NoRows (SomeRows kind ps e) (SomeReads qs some f) h k = absurd cc
rows NoRows (SomeReads ps surely e) (SomeReads qs some f) h k = sets some.0 surely.0 0 (and_parts _ _ k).0 h
rows NoRows AnyRows (SomeReads qs some f) h k = absurd cc
rows (SomeRows erase planes d) NoRows NoRows h k = absurd cc
rows (SomeRows erase planes d) (SomeRows kind ps e) NoRows h k = absurd cc
rows (SomeRows erase planes d) (SomeReads ps sure e) NoRows h k = absurd cc
rows (SomeRows erase planes d) AnyRows NoRows h k = absurd cc
rows (SomeRows erase planes d) NoRows (SomeRows last qs f) h k = absurd cc
rows (SomeRows erase planes d) (SomeRows kind ps e) (SomeRows last qs f) h k =
    pair _ _ _ _ _ _ (tests erase kind last) (pair _ _ _ _ _ _ (sets planes.0 ps.0 qs.0) (drift_through d e f)) h k
rows (SomeRows erase planes d) (SomeReads ps sure e) (SomeRows last qs f) h k = absurd cc
rows (SomeRows erase planes d) AnyRows (SomeRows last qs f) h k = absurd cc
rows (SomeRows erase planes d) NoRows (SomeReads qs some f) h k = absurd cc
rows (SomeRows erase planes d) (SomeRows kind ps e) (SomeReads qs some f) h k = absurd cc
rows (SomeRows erase planes d) (SomeReads ps sure e) (SomeReads qs some f) h k = absurd cc
rows (SomeRows erase planes d) AnyRows (SomeReads qs some f) h k = absurd cc
rows (SomeReads planes surely d) NoRows NoRows h k = absurd cc
rows (SomeReads planes surely d) (SomeRows kind ps e) NoRows h k = absurd cc
rows (SomeReads planes surely d) (SomeReads ps sure e) NoRows h k = absurd cc
rows (SomeReads planes surely d) AnyRows NoRows h k = absurd cc
rows (SomeReads planes surely d) NoRows (SomeRows last qs f) h k = absurd cc
rows (SomeReads planes surely d) (SomeRows kind ps e) (SomeRows last qs f) h k = absurd cc
rows (SomeReads planes surely d) (SomeReads ps sure e) (SomeRows last qs f) h k = absurd cc
rows (SomeReads planes surely d) AnyRows (SomeRows last qs f) h k = absurd cc
rows (SomeReads planes surely d) NoRows (SomeReads qs some f) h k = absurd cc
rows (SomeReads planes surely d) (SomeRows kind ps e) (SomeReads qs some f) h k = absurd cc
rows (SomeReads planes surely d) (SomeReads ps sure e) (SomeReads qs some f) h k =
    pair _ _ _ _ _ _ (λ more less. sets some.0 sure.0 surely.0 less more) (pair _ _ _ _ _ _ (sets planes.0 ps.0 qs.0) (drift_through d e f)) h k
rows (SomeReads planes surely d) AnyRows (SomeReads qs some f) h k = absurd cc
rows AnyRows NoRows NoRows h k = absurd cc
rows AnyRows (SomeRows kind ps e) NoRows h k = absurd cc
rows AnyRows (SomeReads ps sure e) NoRows h k = absurd cc
rows AnyRows AnyRows NoRows h k = absurd cc
rows AnyRows NoRows (SomeRows last qs f) h k = absurd cc
rows AnyRows (SomeRows kind ps e) (SomeRows last qs f) h k = absurd cc
rows AnyRows (SomeReads ps sure e) (SomeRows last qs f) h k = absurd cc
rows AnyRows AnyRows (SomeRows last qs f) h k = absurd cc
rows AnyRows NoRows (SomeReads qs some f) h k = absurd cc
rows AnyRows (SomeRows kind ps e) (SomeReads qs some f) h k = absurd cc
rows AnyRows (SomeReads ps sure e) (SomeReads qs some f) h k = absurd cc
rows AnyRows AnyRows (SomeReads qs some f) h k = absurd cc

copies : (s t u : Copies) → Through (are_copies_within s t) (are_copies_within t u) (are_copies_within s u)
copies s t u h k =
    pair _ _ _ _ _ _ (λ a b. sets u.even.0 t.even.0 s.even.0 b a)
    (pair _ _ _ _ _ _ (λ a b. sets u.odd.0 t.odd.0 s.odd.0 b a)
    (pair _ _ _ _ _ _ (λ a b. mays u.copying t.copying s.copying b a)
    (pair _ _ _ _ _ _ (λ a b. mays u.keeps t.keeps s.keeps b a) (mays s.holds t.holds u.holds)))) h k

luns : (s t u : KnownLun) → Through (is_lun_within s t) (is_lun_within t u) (is_lun_within s u)
luns s t u h k =
    pair _ _ _ _ _ _ (mays s.busy t.busy u.busy)
    (pair _ _ _ _ _ _ (held s.register t.register u.register)
    (pair _ _ _ _ _ _ (outputs s.column t.column u.column)
    (pair _ _ _ _ _ _ (rows s.queue t.queue u.queue)
    (pair _ _ _ _ _ _ (sets s.last.0 t.last.0 u.last.0)
    (pair _ _ _ _ _ _ (spans s.cached.index t.cached.index u.cached.index)
    (pair _ _ _ _ _ _ (spans s.cached.page t.cached.page u.cached.page)
    (pair _ _ _ _ _ _ (λ a b. sets u.held.0 t.held.0 s.held.0 b a)
    (pair _ _ _ _ _ _ (λ a b. sets u.array.0 t.array.0 s.array.0 b a)
    (pair _ _ _ _ _ _ (copies s.copies t.copies u.copies) (mays s.programming t.programming u.programming)))))))))) h k

pub within_through : (s t u : State) → is_state_within s t ≡ true → is_state_within t u ≡ true → is_state_within s u ≡ true
unfolding is_state_within
within_through s t u h k =
    pair _ _ _ _ _ _ (registers s.registers t.registers u.registers)
    (pair _ _ _ _ _ _ (targets s.target t.target u.target) (luns s.lun t.lun u.lun)) h k

-- what was claimed of a place is no less than what is claimed there once one more way leads there
pub within_met : (s t u : State) → is_state_within s t ≡ true → is_state_within s (joined t u) ≡ true
within_met s t u h = within_through s t (joined t u) h (joins_claim_less t u).0

pub within_second : (s t : State) → is_state_within t (joined s t) ≡ true
within_second s t = (joins_claim_less s t).1

-- ---- of itself

le_self : (n : ℕ) → nat_le n n ≡ true
le_self n = grind (arith, nat_tests)

bound_self : (b : Option ℕ) → is_bound_within b b ≡ true
bound_self None = refl
bound_self (Some n) = le_self n

growth_self : (d : Option Growth) → is_growth_within d d ≡ true
growth_self None = refl
growth_self (Some d) = and_from _ _ (le_self d.lo) (bound_self d.hi)

span_self : (s : Span) → is_span_within s s ≡ true
span_self s = and_from _ _ (le_self s.lo) (and_from _ _ (bound_self s.hi) (growth_self s.grown))

may_self : (b : Bool) → may_within b b ≡ true
may_self true = refl
may_self false = refl

registers_self : (s : Registers) → are_registers_within s s ≡ true
registers_self s =
    and_from _ _ (span_self s.column) (and_from _ _ (has_self s.planes.0) (and_from _ _ (span_self s.index) (and_from _ _ (le_self s.page.lo) (and_from _ _ (le_self s.page.hi)
    (and_from _ _ (span_self s.place) (and_from _ _ (span_self s.cost) (may_self s.polled)))))))

column_self : (a : Option Span) → is_column_within a a ≡ true
column_self None = refl
column_self (Some s) = span_self s

drift_self : (d : Drift) → same_drift_as d d ≡ true
drift_self d = and_from _ _ (eqb_self d.ahead) (eqb_self d.behind)

drifts_self : (d : Option Drift) → is_drift_within d d ≡ true
drifts_self None = refl
drifts_self (Some d) = drift_self d

named_self : (a : Option NamedRow) → is_named_within a a ≡ true
named_self None = refl
named_self (Some n) = and_from _ _ (span_self n.index) (and_from _ _ (has_self n.planes.0) (and_from _ _ (le_self n.page) (drifts_self n.drift)))

shows_self : (a : Option Shown) → is_shows_within a a ≡ true
shows_self None = refl
shows_self (Some w) = has_self w.0

held_self : (a : Option Held) → is_register_within a a ≡ true
held_self None = refl
held_self (Some r) = has_self r.0

output_self : (a : Option OutputColumn) → is_output_within a a ≡ true
output_self None = refl
output_self (Some k) = and_from _ _ (span_self k.at) (may_self k.read)

test_self : (a : Bool) → same_test a a ≡ true
test_self true = refl
test_self false = refl

rows_self : (a : QueuedRows) → are_rows_within a a ≡ true
rows_self NoRows = refl
rows_self AnyRows = refl
rows_self (SomeRows erase planes d) = and_from _ _ (test_self erase) (and_from _ _ (has_self planes.0) (drift_self d))
rows_self (SomeReads planes surely d) = and_from _ _ (has_self surely.0) (and_from _ _ (has_self planes.0) (drift_self d))

copies_self : (c : Copies) → are_copies_within c c ≡ true
copies_self c = and_from _ _ (has_self c.even.0) (and_from _ _ (has_self c.odd.0) (and_from _ _ (may_self c.copying) (and_from _ _ (may_self c.keeps) (may_self c.holds))))

lun_self : (s : KnownLun) → is_lun_within s s ≡ true
lun_self s =
    and_from _ _ (may_self s.busy) (and_from _ _ (held_self s.register) (and_from _ _ (output_self s.column) (and_from _ _ (rows_self s.queue)
    (and_from _ _ (has_self s.last.0) (and_from _ _ (span_self s.cached.index) (and_from _ _ (span_self s.cached.page) (and_from _ _ (has_self s.held.0) (and_from _ _ (has_self s.array.0)
    (and_from _ _ (copies_self s.copies) (may_self s.programming))))))))))

-- where its place is a known one
pub within_itself : (s : State) → is_place_within s.target.tail s.target.tail ≡ true → is_state_within s s ≡ true
unfolding is_state_within
within_itself s h =
    and_from _ _ (registers_self s.registers)
    (and_from _ _ (and_from _ _ h (and_from _ _ (column_self s.target.column) (and_from _ _ (named_self s.target.named) (shows_self s.target.shows)))) (lun_self s.lun))
