-- Sets of planes: who is in them.
use Rattle.std.proofs.Common.{◌≡◌, ℕ, zero, suc, ◌+◌, ◌-◌, ◌*◌, ◌/◌, ◌%◌, ◌^◌, ◌≤◌, ◌<◌, ◌==◌, Bool, true, false, ◌||◌, cond, nat_le, refl, sym, ap, ◌∙◌, arith, eqb-true, eq-eqb}
use Rattle.std.specs.Prelude.{bit_and, nat_lt}
use Rattle.std.specs.Int.{bit_at}
use Rattle.std.specs.Int.Bits.{and_self}
use Rattle.std.proofs.Math.Pow.{pow_mono}
use Rattle.std.proofs.lemmas.Bool.Decides.{nat_tests}
use Rattle.std.proofs.lemmas.Bool.{and_parts, not-false, not-true}
use Rattle.std.proofs.lemmas.Nat.{and_assoc, and_comm, and_le_l, pow_pos, pow_below}
use Rattle.std.proofs.lemmas.Nat.Bits.{bit_at-lt, bit_at_above, bit_at_cat_low, same_from_bits, bit_at-suc, bit_at_lowest}
use Rattle.micro_claims.specs.Sets.{has}
use Rattle.micro_claims.specs.Planes.{Planes, has_plane, no_planes, just_plane, either_plane, other_planes, share_a_plane, is_one_plane, are_below}
use Rattle.micro_claims.proofs.Sets.{has_more, has_first, has_second, has_bit, has_both, has_either, has_none, has_only, shares_one}

-- the one plane of a set of one
pub just_has : (n : ℕ) → n ≤ 3 → has_plane n (just_plane n) ≡ true
just_has zero h = refl
just_has (suc zero) h = refl
just_has (suc (suc zero)) h = refl
just_has (suc (suc (suc zero))) h = refl
just_has (suc (suc (suc (suc n)))) h = absurd (omega (arith, h))

pub among_first : (n : ℕ) (p q : Planes) → has_plane n p ≡ true → has_plane n (either_plane p q) ≡ true
among_first n p q h = has_more (2 ^ n) p.0 _ (has_first p.0 q.0) h

pub among_second : (n : ℕ) (p q : Planes) → has_plane n q ≡ true → has_plane n (either_plane p q) ≡ true
among_second n p q h = has_more (2 ^ n) q.0 _ (has_second p.0 q.0) h

-- a set whose planes are below a number
pub below_count : (count n : ℕ) (p : Planes) → are_below count p ≡ true → has_plane n p ≡ true → n < count
below_count count n p h has = at (nat_le count n) refl
  where
    at : (b : Bool) → nat_le count n ≡ b → n < count
    at false e = grind (arith, nat_tests, e)
    at true e =
        let order : count ≤ n = grind (arith, nat_tests, e) in
        let above = pow_mono {i = count} {j = n} order in
        let is = eqb-true (bit_and p.0 (2 ^ n)) (2 ^ n) has in
        let less = and_le_l p.0 (2 ^ n) in
        let below : p.0 < 2 ^ count = grind (arith, nat_tests, h) in
        absurd (omega (arith, above, is, less, below))

-- planes of two sets that share none differ
pub none_common : (p q : Planes) (n m : ℕ) → share_a_plane p q ≡ false → has_plane n p ≡ true → has_plane m q ≡ true → (n == m) ≡ false
none_common p q n m apart here there = at (n == m) refl
  where
    same : (k : ℕ) → has_plane k p ≡ true → has_plane k q ≡ true → ⊥
    same k a b =
        let none = eqb-true (bit_and p.0 q.0) 0 (not-false _ apart) in
        let one = eqb-true (bit_and p.0 (2 ^ k)) (2 ^ k) a in
        let other = eqb-true (bit_and q.0 (2 ^ k)) (2 ^ k) b in
        let both : 2 ^ k ≡ 0 = sym (sym (ap (λ (x : ℕ). bit_and x (2 ^ k)) none) ∙ (and_assoc (2 ^ k) p.0 q.0 ∙ (ap (bit_and p.0) other ∙ one))) in
        let some = pow_pos k in
        absurd (omega (arith, both, some))

    at : (b : Bool) → (n == m) ≡ b → (n == m) ≡ false
    at false e = e
    at true e = absurd (same m (ap (λ (k : ℕ). has_plane k p) (sym (eqb-true n m e)) ∙ here) there)

-- in two sets together is what is in one of them
pub either_has : (n : ℕ) (p q : Planes) → has_plane n (either_plane p q) ≡ (has_plane n p || has_plane n q)
either_has n p q = has_either n p.0 q.0

pub none_has : (n : ℕ) → has_plane n no_planes ≡ false
none_has = has_none

-- a set of one
just_is : (n : ℕ) → n ≤ 3 → just_plane n ≡ record { 0 = 2 ^ n }
just_is n h = let low : nat_lt n 4 ≡ true = grind (arith, nat_tests, h) in ap (λ (b : Bool). cond b (record { 0 = 2 ^ n }) no_planes) low

pub share_just : (n : ℕ) (p : Planes) → n ≤ 3 → share_a_plane (just_plane n) p ≡ has_plane n p
share_just n p h = ap (λ (q : Planes). share_a_plane q p) (just_is n h) ∙ shares_one n p.0

pub just_same : (n m : ℕ) → n ≤ 3 → has_plane n (just_plane m) ≡ (n == m)
just_same n m h = at (nat_lt m 4) refl
  where
    at : (b : Bool) → nat_lt m 4 ≡ b → has_plane n (cond b (record { 0 = 2 ^ m }) no_planes) ≡ (n == m)
    at true e = has_only n m
    at false e = has_none n ∙ (let b : false ≡ (n == m) = grind (arith, nat_tests, h, e) in b)

-- a set of one is below a number where its plane is
below_power : (n count : ℕ) → nat_lt (2 ^ n) (2 ^ count) ≡ nat_lt n count
below_power n count = at (nat_lt n count) refl
  where
    at : (b : Bool) → nat_lt n count ≡ b → nat_lt (2 ^ n) (2 ^ count) ≡ b
    at true e = let order : n < count = grind (arith, nat_tests, e) in let power = pow_below n count order in grind (arith, nat_tests, power)
    at false e = let order : count ≤ n = grind (arith, nat_tests, e) in let power = pow_mono {i = count} {j = n} order in grind (arith, nat_tests, power)

pub below_just : (count n : ℕ) → n ≤ 3 → are_below count (just_plane n) ≡ nat_lt n count
below_just count n h = ap (are_below count) (just_is n h) ∙ below_power n count

-- a set has a plane where the bit is
bit_has : (n : ℕ) (p : Planes) → bit_at p.0 n ≡ 1 → has_plane n p ≡ true
bit_has n p e = has_bit n p.0 ∙ eq-eqb (bit_at p.0 n) 1 e

-- a set whose planes are each below a number
pub below_all : (count : ℕ) (p : Planes) → ((n : ℕ) → has_plane n p ≡ true → n < count) → are_below count p ≡ true
below_all count p h =
    let some = pow_pos count in
    let whole : p.0 ≡ p.0 % 2 ^ count = same_from_bits p.0 (p.0 % 2 ^ count) each in
    let low : p.0 % 2 ^ count < 2 ^ count = omega (arith, some) in
    let small : p.0 < 2 ^ count = omega (arith, whole, low) in
    grind (arith, nat_tests, small)
  where
    high : (i x : ℕ) → bit_at p.0 i ≡ x → x < 2 → count ≤ i → x ≡ 0
    high i zero e l order = refl
    high i (suc zero) e l order = let y = h i (bit_has i p e) in absurd (omega (arith, y, order))
    high i (suc (suc x)) e l order = absurd (omega (arith, l))

    each : (i : ℕ) → bit_at p.0 i ≡ bit_at (p.0 % 2 ^ count) i
    each i = at (nat_le count i) refl
      where
        at : (b : Bool) → nat_le count i ≡ b → bit_at p.0 i ≡ bit_at (p.0 % 2 ^ count) i
        at true e =
            let order : count ≤ i = grind (arith, nat_tests, e) in
            let some = pow_pos count in
            let none = high i (bit_at p.0 i) refl (bit_at-lt p.0 i) order in
            none ∙ sym (bit_at_above (p.0 % 2 ^ count) count i (omega (arith, some)) order)
        at false e =
            let order : i < count = grind (arith, nat_tests, e) in
            let parts : p.0 ≡ p.0 / 2 ^ count * 2 ^ count + p.0 % 2 ^ count = omega arith in
            ap (λ (n : ℕ). bit_at n i) parts ∙ bit_at_cat_low (p.0 / 2 ^ count) count (p.0 % 2 ^ count) i order

-- two sets that share a plane have one that is in both
some_bit : (count x : ℕ) → x ≤ count → 0 < x → (n : ℕ) × (bit_at x n ≡ 1)
some_bit zero x most some = absurd (omega (arith, most, some))
some_bit (suc count) x most some = at (x % 2) refl (some_bit count (x / 2))
  where
    at : (r : ℕ) → x % 2 ≡ r → (x / 2 ≤ count → 0 < x / 2 → (n : ℕ) × (bit_at (x / 2) n ≡ 1)) → (n : ℕ) × (bit_at x n ≡ 1)
    at zero e half = let rest = half (omega (arith, most, some)) (omega (arith, e, some)) in (suc rest.0, bit_at-suc x rest.0 ∙ rest.1)
    at (suc zero) e half = (0, bit_at_lowest x ∙ e)
    at (suc (suc r)) e half = absurd (omega (arith, e))

pub shared : (p q : Planes) → share_a_plane p q ≡ true → (n : ℕ) × ((has_plane n p ≡ true) × (has_plane n q ≡ true))
shared p q h =
    let some : 0 < bit_and p.0 q.0 = (let x = not-true _ h in grind (arith, nat_tests, x)) in
    let bit = some_bit (bit_and p.0 q.0) (bit_and p.0 q.0) (omega arith) some in
    let both = bit_has bit.0 (record { 0 = bit_and p.0 q.0 }) bit.1 in
    let is = eqb-true (bit_and (bit_and p.0 q.0) (2 ^ bit.0)) (2 ^ bit.0) both in
    let right : has (bit_and p.0 q.0) q.0 ≡ true = eq-eqb _ _ (in_right p.0 q.0) in
    let left : has (bit_and p.0 q.0) p.0 ≡ true = eq-eqb _ _ (ap (bit_and p.0) (and_comm p.0 q.0) ∙ (in_right q.0 p.0 ∙ and_comm q.0 p.0)) in
    (bit.0, (has_more (2 ^ bit.0) (bit_and p.0 q.0) p.0 left both, has_more (2 ^ bit.0) (bit_and p.0 q.0) q.0 right both))
  where
    in_right : (a b : ℕ) → bit_and b (bit_and a b) ≡ bit_and a b
    in_right a b = ap (bit_and b) (and_comm a b) ∙ (sym (and_assoc a b b) ∙ (ap (λ (n : ℕ). bit_and n a) (and_self b) ∙ and_comm b a))

pub sharing : (p q : Planes) (n : ℕ) → has_plane n p ≡ true → has_plane n q ≡ true → share_a_plane p q ≡ true
sharing p q n a b = at (share_a_plane p q) refl
  where
    at : (c : Bool) → share_a_plane p q ≡ c → share_a_plane p q ≡ true
    at true e = e
    at false e = absurd (let x : (n == n) ≡ false = none_common p q n n e a b in let y : (n == n) ≡ true = eq-eqb n n refl in let z : true ≡ false = sym y ∙ x in cc)

-- of the planes that aren't in a set of one none is that one
pub record IsOther (n : ℕ) (p q : Planes) : Type 0 where
  pub there : has_plane n q ≡ true
  pub apart : has_plane n p ≡ false

pub other_is : (n : ℕ) (p q : Planes) → is_one_plane p ≡ true → has_plane n (other_planes p q) ≡ true → IsOther n p q
other_is n p q one h =
    let both = and_parts (has_plane n q) (has (2 ^ n) (15 - p.0)) (sym (has_both n q.0 (15 - p.0)) ∙ h) in
    record { there = both.0; apart = at (has_plane n p) refl both.1 }
  where
    this : (k : ℕ) → p.0 ≡ 2 ^ k → has (2 ^ k) (15 - 2 ^ k) ≡ false → has_plane n p ≡ true → has (2 ^ n) (15 - p.0) ≡ false
    this k e out here =
        let is : n ≡ k = eqb-true n k (sym (has_only n k) ∙ (ap (has (2 ^ n)) (sym e) ∙ here)) in
        ap (λ (m : ℕ). has (2 ^ n) (15 - m)) e ∙ (ap (λ (j : ℕ). has (2 ^ j) (15 - 2 ^ k)) is ∙ out)

    by : (a b c d : Bool) → (p.0 == 1) ≡ a → (p.0 == 2) ≡ b → (p.0 == 4) ≡ c → (p.0 == 8) ≡ d → (a || (b || (c || d))) ≡ true → has_plane n p ≡ true → has (2 ^ n) (15 - p.0) ≡ false
    by true b c d e f i j h here = this 0 (eqb-true p.0 1 e) refl here
    by false true c d e f i j h here = this 1 (eqb-true p.0 2 f) refl here
    by false false true d e f i j h here = this 2 (eqb-true p.0 4 i) refl here
    by false false false true e f i j h here = this 3 (eqb-true p.0 8 j) refl here
    by false false false false e f i j h here = cc

    at : (b : Bool) → has_plane n p ≡ b → has (2 ^ n) (15 - p.0) ≡ true → has_plane n p ≡ false
    at false e out = e
    at true e out = let in_one = by (p.0 == 1) (p.0 == 2) (p.0 == 4) (p.0 == 8) refl refl refl refl one e in let clash : true ≡ false = sym out ∙ in_one in cc
