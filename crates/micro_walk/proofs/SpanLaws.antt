-- The laws of numbers that are known by their bounds.
use Rattle.std.proofs.Common.{◌≡◌, ℕ, suc, ◌+◌, ◌-◌, ◌*◌, ◌<◌, ◌≤◌, ◌==◌, Bool, true, false, ◌&&◌, cond, Option, Some, None, refl, ap, arith}
use Rattle.std.specs.Prelude.{nat_le, min}
use Rattle.std.proofs.lemmas.Bool.Decides.{nat_tests}
use Rattle.std.proofs.Math.Nat.{mul-le-mul_right}
use Rattle.std.proofs.lemmas.Bool.{and_parts}
use Rattle.micro_claims.specs.Spans.{Span}
use Rattle.micro_claims.specs.declared.growth.Growth.{Growth}
use Rattle.micro_claims.specs.Spans.{greatest_bound, kept, saturated, bound_plus, exactly, growth_plus, plus, plus_between, is_at_most, only, only_of, copied}
use Rattle.micro_claims.specs.State.{any_number}
use Rattle.micro_claims.specs.Order.{is_bound_within, is_growth_within, is_span_within, no_growth, bound_sum, bound_times, growth_sum, span_at_head, span_heads_by, span_at_heads, span_after_by, span_after_turns, top, Grew, SpanAt, SpanIs}

-- 1. bounds as numbers

pub saturated_is : (n : ℕ) → saturated n ≡ min greatest_bound n
saturated_is n = at (nat_le n greatest_bound) refl
  where
    at : (b : Bool) → nat_le n greatest_bound ≡ b → cond b n greatest_bound ≡ min greatest_bound n
    at true e = let h : n ≤ greatest_bound = le n greatest_bound e in omega (arith, h)
      where
        le : (a b : ℕ) → nat_le a b ≡ true → a ≤ b
        le a b h = grind (arith, nat_tests)
    at false e = let h : greatest_bound < n = gt n greatest_bound e in omega (arith, h)
      where
        gt : (a b : ℕ) → nat_le a b ≡ false → b < a
        gt a b h = grind (arith, nat_tests)

pub top_kept : (n : ℕ) → top (kept n) ≡ min (greatest_bound + 1) n
top_kept n = at (nat_le n greatest_bound) refl
  where
    at : (b : Bool) → nat_le n greatest_bound ≡ b → top (cond b (Some n) None) ≡ min (greatest_bound + 1) n
    at true e = let h : n ≤ greatest_bound = le n greatest_bound e in omega (arith, h)
      where
        le : (a b : ℕ) → nat_le a b ≡ true → a ≤ b
        le a b h = grind (arith, nat_tests)
    at false e = let h : greatest_bound < n = gt n greatest_bound e in omega (arith, h)
      where
        gt : (a b : ℕ) → nat_le a b ≡ false → b < a
        gt a b h = grind (arith, nat_tests)

pub top_plus : (o : Option ℕ) (n : ℕ) → top (bound_plus o n) ≡ min (greatest_bound + 1) (top o + n)
top_plus None n = omega arith
top_plus (Some b) n = top_kept (b + n)

pub top_sum : (o d : Option ℕ) → top (bound_sum o d) ≡ min (greatest_bound + 1) (top o + top d)
top_sum o None = omega arith
top_sum o (Some n) = top_plus o n

pub le_of : (a b : ℕ) → nat_le a b ≡ true → a ≤ b
le_of a b h = grind (arith, nat_tests)

-- who has a smaller bound is at most whatever the other is at most
pub at_most_too : (s a : Option ℕ) (n limit : ℕ) → top a ≤ top s → is_at_most (bound_plus s n) limit ≡ true → is_at_most (bound_plus a n) limit ≡ true
at_most_too None a n limit h e = absurd cc
at_most_too (Some b) None n limit h e = at (nat_le (b + n) greatest_bound) refl e
  where
    at : (c : Bool) → nat_le (b + n) greatest_bound ≡ c → is_at_most (cond c (Some (b + n)) None) limit ≡ true → false ≡ true
    at true x e = let y : b + n ≤ greatest_bound = le_of (b + n) greatest_bound x in absurd (omega (arith, h, y))
    at false x e = e
at_most_too (Some b) (Some c) n limit h e = at (nat_le (b + n) greatest_bound) refl e
  where
    le : (x y z : ℕ) → x ≤ y → nat_le y z ≡ true → nat_le x z ≡ true
    le x y z h e = grind (arith, nat_tests)

    at : (d : Bool) → nat_le (b + n) greatest_bound ≡ d → is_at_most (cond d (Some (b + n)) None) limit ≡ true → is_at_most (kept (c + n)) limit ≡ true
    at true x e =
        let y : nat_le (c + n) greatest_bound ≡ true = le (c + n) (b + n) greatest_bound (omega (arith, h)) x in
        rw (y) (le (c + n) (b + n) limit (omega (arith, h)) e)
    at false x e = absurd cc

-- 2. who claims less

top_within : (s t a : Option ℕ) → is_bound_within s t ≡ true → top a ≤ top s → top a ≤ greatest_bound + 1 → top a ≤ top t
top_within s None a h k small = small
top_within None (Some n) a h k small = absurd cc
top_within (Some m) (Some n) a h k small = let e = le_of m n h in omega (arith, e, k)

growth_within : (v a : Span) (d e : Option Growth) → is_growth_within d e ≡ true → top a.hi ≤ greatest_bound + 1 → Grew v d a → Grew v e a
growth_within v a d None h small g = tt
growth_within v a None (Some e) h small g = absurd cc
growth_within v a (Some d) (Some e) h small g =
    let parts = and_parts (nat_le e.lo d.lo) (is_bound_within d.hi e.hi) h in
    let lo = le_of e.lo d.lo parts.0 in
    let p = g.0 in
    (omega (arith, lo, p), high d.hi e.hi parts.1 g.1)
  where
    high : (x y : Option ℕ) → is_bound_within x y ≡ true → top a.hi ≤ top v.hi + top x → top a.hi ≤ top v.hi + top y
    high x None k q = omega (arith, small)
    high None (Some n) k q = absurd cc
    high (Some m) (Some n) k q = let z = le_of m n k in omega (arith, z, q)

pub eased : (v s t a : Span) → is_span_within s t ≡ true → SpanAt v s a → SpanAt v t a
eased v s t a h f =
    let parts = and_parts (nat_le t.lo s.lo) (is_bound_within s.hi t.hi && is_growth_within s.grown t.grown) h in
    let more = and_parts (is_bound_within s.hi t.hi) (is_growth_within s.grown t.grown) parts.1 in
    let lo = le_of t.lo s.lo parts.0 in
    let low = f.low in
    record { low = omega (arith, lo, low); high = top_within s.hi t.hi a.hi more.0 f.high f.small; grew = growth_within v a s.grown t.grown more.1 f.small f.grew; order = f.order; low_small = f.low_small; small = f.small }

pub is_eased : (s t a : Span) → is_span_within s t ≡ true → SpanIs s a → SpanIs t a
is_eased s t a h f =
    let parts = and_parts (nat_le t.lo s.lo) (is_bound_within s.hi t.hi && is_growth_within s.grown t.grown) h in
    let more = and_parts (is_bound_within s.hi t.hi) (is_growth_within s.grown t.grown) parts.1 in
    let lo = le_of t.lo s.lo parts.0 in
    let low = f.low in
    record { low = omega (arith, lo, low); high = top_within s.hi t.hi a.hi more.0 f.high f.small; order = f.order; low_small = f.low_small; small = f.small }

-- nothing is claimed
pub free : (v a : Span) → a.lo ≤ top a.hi → a.lo ≤ greatest_bound → top a.hi ≤ greatest_bound + 1 → SpanAt v any_number a
free v a order low_small small = record { low = omega arith; high = small; grew = tt; order = order; low_small = low_small; small = small }

-- 3. what a word makes of a number

pub set : (v : Span) (n : ℕ) → SpanAt v (exactly n) (exactly n)
set v n = let e = top_kept n in let x = saturated_is n in record { low = omega arith; high = omega arith; grew = tt; order = omega (arith, e, x); low_small = omega (arith, x); small = omega (arith, e) }

pub is_copied : (v s a : Span) → SpanAt v s a → SpanIs (copied s) (copied a)
is_copied v s a f = record { low = f.low; high = f.high; order = f.order; low_small = f.low_small; small = f.small }

pub at_copied : (v s a : Span) → SpanIs s a → SpanAt v (copied s) (copied a)
at_copied v s a f = record { low = f.low; high = f.high; grew = tt; order = f.order; low_small = f.low_small; small = f.small }

pub copied_at : (w v s a : Span) → SpanAt w s a → SpanAt v (copied s) (copied a)
copied_at w v s a f = record { low = f.low; high = f.high; grew = tt; order = f.order; low_small = f.low_small; small = f.small }

grew_more : (v a : Span) (ls ms la ma : ℕ) → ls ≤ la → ma ≤ ms → (d : Option Growth) → top a.hi ≤ greatest_bound + 1 → Grew v d a → Grew v (growth_plus ls ms d) (plus_between a la ma)
grew_more v a ls ms la ma low high None small g = tt
grew_more v a ls ms la ma low high (Some d) small g =
    let p = g.0 in
    let q = g.1 in
    let x = saturated_is (d.lo + ls) in
    let y = saturated_is (a.lo + la) in
    let z = top_plus a.hi ma in
    let w = top_plus d.hi ms in
    (omega (arith, p, x, y, low), omega (arith, q, z, w, high))

pub grown_between : (v s a : Span) (ls ms la ma : ℕ) → ls ≤ la → la ≤ ma → ma ≤ ms → SpanAt v s a → SpanAt v (plus_between s ls ms) (plus_between a la ma)
grown_between v s a ls ms la ma least order most f =
    let x = saturated_is (s.lo + ls) in
    let y = saturated_is (a.lo + la) in
    let z = top_plus a.hi ma in
    let w = top_plus s.hi ms in
    let low = f.low in
    let high = f.high in
    let ordered = f.order in
    record {
      low = omega (arith, low, x, y, least);
      high = omega (arith, high, z, w, most);
      grew = grew_more v a ls ms la ma least most s.grown f.small f.grew;
      order = omega (arith, ordered, y, z, order);
      low_small = omega (arith, y);
      small = omega (arith, z);
    }

pub grown : (v s a : Span) (n : ℕ) → SpanAt v s a → SpanAt v (plus s n) (plus a n)
grown v s a n f = grown_between v s a n n n n (omega arith) (omega arith) (omega arith) f

-- a number that may have grown, and hasn't
pub stayed : (v s a : Span) (n : ℕ) → SpanAt v s a → SpanAt v (plus_between s 0 n) a
stayed v s a n f =
    let x = saturated_is (s.lo + 0) in
    let w = top_plus s.hi n in
    let low = f.low in
    let high = f.high in
    let small = f.small in
    record { low = omega (arith, low, x); high = omega (arith, high, w, small); grew = more s.grown f.grew; order = f.order; low_small = f.low_small; small = f.small }
  where
    more : (d : Option Growth) → Grew v d a → Grew v (growth_plus 0 n d) a
    more None g = tt
    more (Some d) g =
        let p = g.0 in
        let q = g.1 in
        let small = f.small in
        let low_small = f.low_small in
        let x = saturated_is (d.lo + 0) in
        let w = top_plus d.hi n in
        (omega (arith, p, x), omega (arith, q, w, small))

pub is_of : (v s a : Span) → SpanAt v s a → SpanIs s a
is_of v s a f = record { low = f.low; high = f.high; order = f.order; low_small = f.low_small; small = f.small }

-- what is known of the claim is so of the actual number
pub only_too : (s a : Span) (n : ℕ) → SpanIs s a → only s ≡ Some n → only a ≡ Some n
only_too s a n f h = at s.hi f.high h
  where
    equal : (x y : ℕ) → (x == y) ≡ true → x ≡ y
    equal x y h = grind (arith, nat_tests)

    equal_too : (x y : ℕ) → x ≡ y → (x == y) ≡ true
    equal_too x y h = grind (arith, nat_tests)

    there : (o : Option ℕ) → s.lo ≤ a.lo → a.lo ≤ top o → top o ≤ s.lo → s.lo ≤ greatest_bound → s.lo ≡ n → only_of a.lo o ≡ Some n
    there None low order high few e = absurd (omega (arith, low, order, high, few))
    there (Some m) low order high few e =
        let x : a.lo ≡ n = omega (arith, low, order, high, e) in
        let y : (a.lo == m) ≡ true = equal_too a.lo m (omega (arith, low, order, high)) in
        rw (y) (ap (λ (k : ℕ). Some k) x)

    at : (o : Option ℕ) → top a.hi ≤ top o → only_of s.lo o ≡ Some n → only a ≡ Some n
    at None high h = absurd cc
    at (Some m) high h = by (s.lo == m) refl h
      where
        by : (b : Bool) → (s.lo == m) ≡ b → cond b (Some s.lo) None ≡ Some n → only a ≡ Some n
        by true e h = let x : s.lo ≡ m = equal s.lo m e in let low = f.low in let order = f.order in there a.hi low order (omega (arith, high, x)) (few x) cc
          where
            few : s.lo ≡ m → s.lo ≤ greatest_bound
            few x = let low = f.low in let small = f.low_small in omega (arith, low, small)
        by false e h = absurd cc

-- 4. loops

pub entered : (v s a : Span) → SpanAt v s a → SpanAt a (span_at_head s) a
entered v s a f = let small = f.small in record { low = f.low; high = f.high; grew = (omega arith, omega arith); order = f.order; low_small = f.low_small; small = f.small }

abbrev pub RanBy : Option Growth → Span → ℕ → Span → Type 0
RanBy None start turns b = Unit {0}
RanBy (Some d) start turns b = (min greatest_bound (start.lo + turns * d.lo) ≤ b.lo) × (top b.hi ≤ top start.hi + turns * top d.hi)

pub record Ran (v s r : Span) (turns : ℕ) (b : Span) : Type 0 where
  pub start : Span
  pub first : SpanAt v s start
  pub by : RanBy r.grown start turns b
  pub low : 1 ≤ turns → r.lo ≤ b.lo
  pub high : 1 ≤ turns → top b.hi ≤ top r.hi
  pub order : b.lo ≤ top b.hi
  pub low_small : b.lo ≤ greatest_bound
  pub small : top b.hi ≤ greatest_bound + 1

pub no_turn : (v s r a : Span) → SpanAt v s a → Ran v s r 0 a
no_turn v s r a f = record { start = a; first = f; by = by r.grown; low = λ h. absurd (omega (arith, h)); high = λ h. absurd (omega (arith, h)); order = f.order; low_small = f.low_small; small = f.small }
  where
    by : (d : Option Growth) → RanBy d a 0 a
    by None = tt
    by (Some d) = (omega arith, omega arith)

pub a_turn : (v s r a b : Span) (turns : ℕ) → Ran v s r turns a → SpanAt a r b → Ran v s r (suc turns) b
a_turn v s r a b turns ran f = record { start = ran.start; first = ran.first; by = by r.grown ran.by f.grew; low = λ h. f.low; high = λ h. f.high; order = f.order; low_small = f.low_small; small = f.small }
  where
    by : (d : Option Growth) → RanBy d ran.start turns a → Grew a d b → RanBy d ran.start (suc turns) b
    by None x g = tt
    by (Some d) x g = let p = x.0 in let q = x.1 in let m = g.0 in let k = g.1 in (omega (arith, p, m), omega (arith, q, k))

top_times : (turns : ℕ) (o : Option ℕ) → 1 ≤ turns → top (bound_times turns o) ≡ min (greatest_bound + 1) (turns * top o)
top_times turns None one = let h : 1 * (greatest_bound + 1) ≤ turns * (greatest_bound + 1) = mul-le-mul_right (greatest_bound + 1) one in omega (arith, h)
top_times turns (Some n) one = top_kept (turns * n)

nothing_grown : (b : Span) → Grew b (Some no_growth) b
nothing_grown b = (omega arith, omega arith)

pub again : (v s r b : Span) (turns done : ℕ) → Ran v s r done b → 1 ≤ done → done < turns → SpanAt b (span_at_heads s r turns) b
again v s r b turns done ran one few = at r.grown ran.by
  where
    at : (d : Option Growth) → RanBy d ran.start done b → SpanAt b (span_heads_by d s r turns) b
    at None by = record { low = ran.low one; high = ran.high one; grew = nothing_grown b; order = ran.order; low_small = ran.low_small; small = ran.small }
    at (Some d) by =
        let p = by.0 in
        let q = by.1 in
        let low = ran.first.low in
        let high = ran.first.high in
        let small = ran.small in
        let least : 1 * d.lo ≤ done * d.lo = mul-le-mul_right d.lo one in
        let most : done * top d.hi ≤ (turns - 1) * top d.hi = mul-le-mul_right (top d.hi) (omega (arith, few)) in
        let x = saturated_is (s.lo + d.lo) in
        let y = top_sum s.hi (bound_times (turns - 1) d.hi) in
        let z = top_times (turns - 1) d.hi (omega (arith, one, few)) in
        record { low = omega (arith, p, low, least, x); high = omega (arith, q, high, most, y, z, small); grew = nothing_grown b; order = ran.order; low_small = ran.low_small; small = ran.small }

pub left : (v s r b : Span) (turns : ℕ) → 1 ≤ turns → Ran v s r turns b → SpanAt v (span_after_turns s r turns) b
left v s r b turns one ran = at r.grown ran.by
  where
    more : (d : Growth) (e : Option Growth) → RanBy (Some d) ran.start turns b → Grew v e ran.start → Grew v (growth_sum (saturated (turns * d.lo)) (bound_times turns d.hi) e) b
    more d None by g = tt
    more d (Some e) by g =
        let p = by.0 in
        let q = by.1 in
        let m = g.0 in
        let k = g.1 in
        let small = ran.small in
        let w = saturated_is (turns * d.lo) in
        let x = saturated_is (e.lo + saturated (turns * d.lo)) in
        let y = top_sum e.hi (bound_times turns d.hi) in
        let z = top_times turns d.hi one in
        (omega (arith, p, m, w, x), omega (arith, q, k, y, z, small))

    at : (d : Option Growth) → RanBy d ran.start turns b → SpanAt v (span_after_by d s r turns) b
    at None by = record { low = ran.low one; high = ran.high one; grew = tt; order = ran.order; low_small = ran.low_small; small = ran.small }
    at (Some d) by =
        let p = by.0 in
        let q = by.1 in
        let low = ran.first.low in
        let high = ran.first.high in
        let small = ran.small in
        let x = saturated_is (s.lo + turns * d.lo) in
        let y = top_sum s.hi (bound_times turns d.hi) in
        let z = top_times turns d.hi one in
        record { low = omega (arith, p, low, x); high = omega (arith, q, high, y, z, small); grew = more d s.grown by ran.first.grew; order = ran.order; low_small = ran.low_small; small = ran.small }
