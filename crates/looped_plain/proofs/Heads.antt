-- Plain operations in a loop: where the first turn begins, where a later one may, and why no walk after the second is needed.
use Rattle.std.proofs.Common.{◌≡◌, ℕ, ◌+◌, ◌-◌, ◌*◌, ◌≤◌, Bool, true, false, ◌||◌, cond, nat_le, min, max, List, [], ◌∷◌, Option, Some, None, refl, sym, ap, ap₂, ◌∙◌, subst, arith, eq-eqb, not}
use Rattle.std.specs.Prelude.{bit_or}
use Rattle.std.proofs.lemmas.Bool.{and_from}
use Rattle.std.proofs.lemmas.Bool.Decides.{nat_tests}
use Rattle.std.proofs.lemmas.Nat.{and_comm}
use Rattle.nand_geometry.specs.declared.parts.Parts.{Parts}
use Rattle.micro_claims.specs.Spans.{Span, greatest_bound, kept, saturated, exactly}
use Rattle.micro_claims.specs.declared.growth.Growth.{Growth}
use Rattle.micro_claims.specs.declared.planes.Planes.{Planes}
use Rattle.micro_claims.specs.declared.state.State.{State}
use Rattle.micro_claims.specs.State.{first_state, any_number, uncopied}
use Rattle.micro_claims.specs.Planes.{just_plane, either_plane, no_planes, are_planes_within}
use Rattle.micro_claims.specs.Sets.{has}
use Rattle.micro_claims.proofs.Sets.{has_second}
use Rattle.micro_claims.specs.Order.{no_growth, bound_sum, span_at_head, span_heads_by, span_at_heads, output_by, is_bound_within, is_growth_within, is_span_within, is_state_within, state_at_head, state_at_heads}
use Rattle.micro_claims.specs.Joins.{greater_bound, joined_growth, joined, joined_span}
use Rattle.micro_verify.specs.declared.plain_op.PlainOp.{PlainOp}
use Rattle.micro_verify.specs.declared.plain_op.PlainOp.TheVariants.{Read, Program, Erase}
use Rattle.micro_verify.proofs.PlainBasics.{le_test}
use Rattle.micro_verify.proofs.PlainOperations.{closer_of}
use Rattle.looped_plain.proofs.Ways.{Number, Way, joined_number, joined_way, met_way, way_behind, led_away, way_of, grown_of, NumberIs, Rests, rests_joined, rests_at}

-- ---- where turns begin

abbrev unset : ℕ → Number
unset n = record { most = n; set = false }

abbrev pub first_way : Way
first_way = record { column = unset 0; index = unset 0; place = unset 0; planes = just_plane 0; page = 0; paid = 0 }

head_is : NumberIs (span_at_head (exactly 0)) (unset 0)
head_is = record { hi = refl; grown = refl }

pub first_rests : Rests 0 first_way (state_at_head first_state)
unfolding state_at_head
first_rests =
    rests_at first_way (span_at_head (exactly 0)) (span_at_head (exactly 0)) (record { lo = 0; hi = 0 }) (span_at_head (exactly 0)) 0 0 false None None None true true (record { index = span_at_head any_number; page = span_at_head any_number }) no_planes no_planes uncopied 0 0
    refl head_is head_is head_is refl

-- a number that a turn has set is there at most what it was set to, and another one what it was at first
abbrev pub number_at_heads : Number → Number
number_at_heads n = unset (cond n.set n.most 0)

abbrev pub way_at_heads : Way → Way
way_at_heads w = record { column = number_at_heads w.column; index = number_at_heads w.index; place = number_at_heads w.place; planes = w.planes; page = w.page; paid = 0 }

heads_by : (s : Span) (most : ℕ) (set : Bool) (turns : ℕ) → s.hi ≡ Some most → NumberIs (span_heads_by (grown_of set) (exactly 0) s turns) (unset (cond set most 0))
heads_by s most true turns h = record { hi = h; grown = refl }
heads_by s most false turns h =
    let none : (turns - 1) * 0 ≡ 0 = omega arith in
    record { hi = ap (λ (n : ℕ). bound_sum (Some 0) (kept n)) none; grown = refl }

heads_is : (s : Span) (n : Number) (turns : ℕ) → NumberIs s n → NumberIs (span_at_heads (exactly 0) s turns) (number_at_heads n)
heads_is s n turns d = subst (λ (o : Option Growth). NumberIs (span_heads_by o (exactly 0) s turns) (number_at_heads n)) (sym d.grown) (heads_by s n.most n.set turns d.hi)

pub heads_rest : (turns total : ℕ) (v : Way) (r : State) → Rests total v r → (turns - 1) * v.paid ≤ greatest_bound → Rests ((turns - 1) * v.paid) (way_at_heads v) (state_at_heads first_state r turns)
unfolding state_at_heads
heads_rest turns total v r d few =
    let n = (turns - 1) * v.paid in
    let kept1 : nat_le n greatest_bound ≡ true = le_test n greatest_bound few in
    let plus : 0 + n ≡ n = omega arith in
    let cost : bound_sum (Some 0) (kept n) ≡ Some n = rw (kept1, plus, kept1) refl in
    let made = rests_at (way_at_heads v) (span_at_heads (exactly 0) d.column turns) (span_at_heads (exactly 0) d.index turns) d.page (span_at_heads (exactly 0) d.place turns) (saturated (0 + d.growth)) 0 d.polled d.shows d.register
    (output_by (λ x y. span_at_heads x y turns) None d.output) d.read d.other (record { index = span_at_heads any_number d.cached.index turns; page = span_at_heads any_number d.cached.page turns }) d.held d.array d.copies n n
    refl (heads_is d.column v.column turns d.column_is) (heads_is d.index v.index turns d.index_is) (heads_is d.place v.place turns d.place_is) d.page_is in
    subst (λ (x : State). Rests n (way_at_heads v) x) (sym (ap (λ (x : State). state_at_heads first_state x turns) d.is ∙ rw (cost) refl)) made

-- where the second walk begins
abbrev pub second_way : Way → Way
second_way v = joined_way first_way (way_at_heads v)

pub second_rests : (turns total : ℕ) (v : Way) (r : State) → Rests total v r → (turns - 1) * v.paid ≤ greatest_bound → Rests ((turns - 1) * v.paid + (second_way v).paid) (second_way v) (joined (state_at_head first_state) (state_at_heads first_state r turns))
second_rests turns total v r d few =
    let n = (turns - 1) * v.paid in
    let same : max 0 n ≡ n + (second_way v).paid = grind (arith, nat_tests) in
    subst (λ (k : ℕ). Rests k (second_way v) (joined (state_at_head first_state) (state_at_heads first_state r turns))) same
    (rests_joined 0 n first_way (way_at_heads v) (state_at_head first_state) (state_at_heads first_state r turns) first_rests (heads_rest turns total v r d few))

-- ---- two walks, side by side

-- a number of the second walk is no greater than where that began or than in the first walk, and set where it was set there
pub record Follows (begun : ℕ) (m n : Number) : Type 0 where
  pub most : n.most ≤ max begun m.most
  pub set : n.set ≡ m.set

-- where an operation begins
pub record Begins (column place : ℕ) (v w : Way) : Type 0 where
  pub column_follows : Follows column v.column w.column
  pub place_follows : Follows place v.place w.place
  pub paid : w.paid ≡ v.paid

-- behind an operation
pub record Beside (column place : ℕ) (v w : Way) : Type 0 where
  pub begins : Begins column place v w
  pub index : w.index ≡ v.index
  pub planes : w.planes ≡ v.planes
  pub page : w.page ≡ v.page

itself : (begun : ℕ) (n : Number) → Follows begun n n
itself begun n = record { most = grind (arith, nat_tests); set = refl }

beside_behind : (g : Parts) (column place : ℕ) (op : PlainOp) (v w : Way) → Begins column place v w → Beside column place (way_behind g op v) (way_behind g op w)
beside_behind g column place (Read row plane c p len) v w d =
    record { begins = record { column_follows = itself column _; place_follows = itself place _; paid = ap (λ (n : ℕ). n + 1 + 5 + 1 + 1 + len) d.paid }; index = refl; planes = refl; page = refl }
beside_behind g column place (Program row plane c p len) v w d =
    record { begins = record { column_follows = itself column _; place_follows = itself place _; paid = ap (λ (n : ℕ). n + 1 + 5 + len + 1) d.paid }; index = refl; planes = refl; page = refl }
beside_behind g column place (Erase row plane) v w d =
    record { begins = record { column_follows = d.column_follows; place_follows = d.place_follows; paid = ap (λ (n : ℕ). n + 1 + 3 + 1) d.paid }; index = refl; planes = refl; page = refl }

follows_joined : (begun : ℕ) (k l m n : Number) → Follows begun k l → Follows begun m n → Follows begun (joined_number k m) (joined_number l n)
follows_joined begun k l m n a b = let x = a.most in let y = b.most in record { most = grind (arith, nat_tests, x, y); set = ap₂ (λ (p q : Bool). p || q) a.set b.set }

beside_joined : (column place : ℕ) (t u v w : Way) → Beside column place t u → Beside column place v w → Beside column place (joined_way t v) (joined_way u w)
beside_joined column place t u v w a b =
    record {
      begins = record {
        column_follows = follows_joined column t.column u.column v.column w.column a.begins.column_follows b.begins.column_follows;
        place_follows = follows_joined place t.place u.place v.place w.place a.begins.place_follows b.begins.place_follows;
        paid = ap₂ max a.begins.paid b.begins.paid;
      };
      index = ap₂ joined_number a.index b.index;
      planes = ap₂ either_plane a.planes b.planes;
      page = ap₂ max a.page b.page;
    }

abbrev BothMet : (column place : ℕ) → Option Way → Option Way → Type 0
BothMet column place None None = Unit {0}
BothMet column place None (Some w) = ⊥
BothMet column place (Some v) None = ⊥
BothMet column place (Some v) (Some w) = Beside column place v w

both_met : (column place : ℕ) (f h : Option Way) (v w : Way) → BothMet column place f h → Beside column place v w → Beside column place (met_way f v) (met_way h w)
both_met column place None None v w m d = d
both_met column place None (Some u) v w m d = absurd m
both_met column place (Some t) None v w m d = absurd m
both_met column place (Some t) (Some u) v w m d = beside_joined column place t u v w m d

both_led : (column place : ℕ) (op : PlainOp) (f h : Option Way) (v w : Way) → BothMet column place f h → Beside column place v w → BothMet column place (led_away op f v) (led_away op h w)
both_led column place (Read row plane c p len) f h v w m d = m
both_led column place (Program row plane c p len) f h v w m d = both_met column place f h v w m d
both_led column place (Erase row plane) f h v w m d = both_met column place f h v w m d

ways_beside : (g : Parts) (column place : ℕ) (ops : List PlainOp) (v w : Way) (f h : Option Way) → Beside column place v w → BothMet column place f h → Beside column place (way_of g v f ops) (way_of g w h ops)
ways_beside g column place [] v w f h d m = both_met column place f h v w m d
ways_beside g column place (op ∷ ops) v w f h d m =
    let on = beside_behind g column place op v w d.begins in
    ways_beside g column place ops (way_behind g op v) (way_behind g op w) (led_away op f (way_behind g op v)) (led_away op h (way_behind g op w)) on (both_led column place op f h (way_behind g op v) (way_behind g op w) m on)

-- the second walk follows the first
pub second_follows : (g : Parts) (op : PlainOp) (ops : List PlainOp) (w : Way) → w.column.set ≡ false → w.place.set ≡ false → w.paid ≡ 0 → Beside w.column.most w.place.most (way_of g first_way None (op ∷ ops)) (way_of g w None (op ∷ ops))
second_follows g op ops w c p paid =
    let begins : Begins w.column.most w.place.most first_way w =
    record { column_follows = record { most = grind (arith, nat_tests); set = c }; place_follows = record { most = grind (arith, nat_tests); set = p }; paid = paid } in
    let on = beside_behind g w.column.most w.place.most op first_way w begins in
    ways_beside g w.column.most w.place.most ops (way_behind g op first_way) (way_behind g op w) (led_away op None (way_behind g op first_way)) (led_away op None (way_behind g op w)) on (both_led w.column.most w.place.most op None None (way_behind g op first_way) (way_behind g op w) tt on)

-- ---- a later turn begins with no more than that

number_within : (s t : Span) (m n : Number) → NumberIs s m → NumberIs t n → m.set ≡ false → n.set ≡ false → m.most ≤ max 0 n.most → is_span_within s (joined_span (span_at_head (exactly 0)) t) ≡ true
number_within s t m n a b free free2 less =
    let low : nat_le (min 0 t.lo) s.lo ≡ true = grind (arith, nat_tests) in
    let high : nat_le m.most (max 0 n.most) ≡ true = le_test _ _ less in
    let bound : is_bound_within s.hi (greater_bound (Some 0) t.hi) ≡ true = rw (a.hi, b.hi) high in
    let growth : is_growth_within s.grown (joined_growth (Some no_growth) t.grown) ≡ true = rw (a.grown, b.grown, free, free2) refl in
    and_from _ _ low (and_from _ _ bound growth)

-- the same number
same_at_heads : (m n : Number) → n ≡ m → (number_at_heads n).most ≤ max 0 (number_at_heads m).most
same_at_heads m n e = subst (λ (x : Number). (number_at_heads x).most ≤ max 0 (number_at_heads m).most) (sym e) (least (number_at_heads m).most)
  where
    least : (k : ℕ) → k ≤ max 0 k
    least k = omega arith

least_bound : (b : Option ℕ) → is_bound_within b (greater_bound (Some 0) b) ≡ true
least_bound None = refl
least_bound (Some n) = (let h : nat_le n (max 0 n) ≡ true = grind (arith, nat_tests) in h)

heads_grown : (s r : Span) (turns : ℕ) → (span_at_heads s r turns).grown ≡ Some no_growth
heads_grown s r turns = at r.grown
  where
    at : (o : Option Growth) → (span_heads_by o s r turns).grown ≡ Some no_growth
    at None = refl
    at (Some d) = refl

-- a number that grows by as much in either walk
cost_within : (s t : Span) → s.hi ≡ t.hi → s.grown ≡ Some no_growth → t.grown ≡ Some no_growth → is_span_within s (joined_span (span_at_head (exactly 0)) t) ≡ true
cost_within s t same a b =
    let low : nat_le (min 0 t.lo) s.lo ≡ true = grind (arith, nat_tests) in
    let growth : is_growth_within s.grown (joined_growth (Some no_growth) t.grown) ≡ true = rw (a, b) refl in
    and_from _ _ low (and_from _ _ (ap (λ (o : Option ℕ). is_bound_within o (greater_bound (Some 0) t.hi)) same ∙ least_bound t.hi) growth)

-- of a number that has no bound
free_within : (s t : Span) → s.grown ≡ Some no_growth → t.grown ≡ Some no_growth → is_span_within s (joined_span (span_at_head any_number) t) ≡ true
free_within s t a b =
    let low : nat_le (min 0 t.lo) s.lo ≡ true = grind (arith, nat_tests) in
    let growth : is_growth_within s.grown (joined_growth (Some no_growth) t.grown) ≡ true = rw (a, b) refl in
    and_from _ _ low (and_from _ _ refl growth)

closer_within : (a b c d : Bool) → has (closer_of a b).0 (bit_or 5 (closer_of c d).0) ≡ true
closer_within true true true true = refl
closer_within true true true false = refl
closer_within true true false true = refl
closer_within true true false false = refl
closer_within true false true true = refl
closer_within true false true false = refl
closer_within true false false true = refl
closer_within true false false false = refl
closer_within false true true true = refl
closer_within false true true false = refl
closer_within false true false true = refl
closer_within false true false false = refl
closer_within false false true true = refl
closer_within false false true false = refl
closer_within false false false true = refl
closer_within false false false false = refl

none_within : (p : Planes) → are_planes_within no_planes p ≡ true
none_within p = eq-eqb _ _ (and_comm p.0 0)

-- what is set or was at first, in the second walk and in the first
follows_at_heads : (m n : Number) → Follows (max 0 (number_at_heads m).most) m n → (number_at_heads n).most ≤ max 0 (number_at_heads m).most
follows_at_heads m n f = at m.set n.set f.set f.most
  where
    at : (a b : Bool) → b ≡ a → n.most ≤ max (max 0 (cond a m.most 0)) m.most → cond b n.most 0 ≤ max 0 (cond a m.most 0)
    at true true e h = grind (arith, nat_tests, h)
    at false false e h = omega arith
    at true false e h = absurd cc
    at false true e h = absurd cc

any_held : (b : Bool) → (not b || true) ≡ true
any_held true = refl
any_held false = refl

pub stays_within : (turns t u : ℕ) (v w : Way) (r q : State) → Rests t v r → Rests u w q → Beside (second_way v).column.most (second_way v).place.most v w
    → is_state_within (state_at_heads first_state q turns) (joined (state_at_head first_state) (state_at_heads first_state r turns)) ≡ true
unfolding is_state_within joined state_at_head state_at_heads
stays_within turns t u v w r q a b d =
    let low : nat_le (min 0 a.page.lo) b.page.lo ≡ true = grind (arith, nat_tests) in
    let page : b.page.hi ≡ a.page.hi = b.page_is ∙ (d.page ∙ sym a.page_is) in
    let high : nat_le b.page.hi (max 0 a.page.hi) ≡ true = grind (arith, nat_tests, page) in
    let paid : bound_sum (Some 0) (kept ((turns - 1) * w.paid)) ≡ bound_sum (Some 0) (kept ((turns - 1) * v.paid)) = ap (λ (n : ℕ). bound_sum (Some 0) (kept ((turns - 1) * n))) d.begins.paid in
    rw (a.is, b.is)
    (and_from _ _
    (and_from _ _ (number_within _ _ _ _ (heads_is b.column w.column turns b.column_is) (heads_is a.column v.column turns a.column_is) refl refl (follows_at_heads v.column w.column d.begins.column_follows))
    (and_from _ _ (subst (λ (ps : Planes). has ps.0 (bit_or 1 v.planes.0) ≡ true) (sym d.planes) (has_second 1 v.planes.0))
    (and_from _ _ (number_within _ _ _ _ (heads_is b.index w.index turns b.index_is) (heads_is a.index v.index turns a.index_is) refl refl (same_at_heads v.index w.index d.index))
    (and_from _ _ low
    (and_from _ _ high
    (and_from _ _ (number_within _ _ _ _ (heads_is b.place w.place turns b.place_is) (heads_is a.place v.place turns a.place_is) refl refl (follows_at_heads v.place w.place d.begins.place_follows))
    (and_from _ _ (cost_within (record { lo = saturated (0 + b.growth); hi = bound_sum (Some 0) (kept ((turns - 1) * w.paid)); grown = Some no_growth }) (record { lo = saturated (0 + a.growth); hi = bound_sum (Some 0) (kept ((turns - 1) * v.paid)); grown = Some no_growth }) paid refl refl) refl)))))))
    (and_from _ _ refl (and_from _ _ refl (and_from _ _ refl (and_from _ _ refl (and_from _ _ refl
    (and_from _ _ (closer_within b.read b.other a.read a.other)
    (and_from _ _ (free_within (span_at_heads any_number b.cached.index turns) (span_at_heads any_number a.cached.index turns) (heads_grown any_number b.cached.index turns) (heads_grown any_number a.cached.index turns))
    (and_from _ _ (free_within (span_at_heads any_number b.cached.page turns) (span_at_heads any_number a.cached.page turns) (heads_grown any_number b.cached.page turns) (heads_grown any_number a.cached.page turns))
    (and_from _ _ (none_within b.held) (and_from _ _ (none_within b.array)
    (and_from _ _ (and_from _ _ (none_within b.copies.even) (and_from _ _ (none_within b.copies.odd) (and_from _ _ refl (and_from _ _ refl (any_held b.copies.holds))))) refl))))))))))))
