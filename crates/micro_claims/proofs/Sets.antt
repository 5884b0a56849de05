-- Sets as the bits of a number: what is in them.
use Rattle.std.proofs.Common.{◌≡◌, ℕ, zero, suc, ◌*◌, ◌^◌, ◌<◌, ◌==◌, Bool, true, false, ◌&&◌, ◌||◌, not, refl, sym, ap, ◌∙◌, arith, eqb-true, eq-eqb}
use Rattle.std.specs.Prelude.{bit_and, bit_or, max, min}
use Rattle.std.specs.Int.{bit_at}
use Rattle.std.specs.Int.Bits.{and_self}
use Rattle.std.proofs.lemmas.Bool.Decides.{nat_tests}
use Rattle.std.proofs.lemmas.Nat.{and_assoc, and_comm, and_or_self, or_comm, pow_pos}
use Rattle.std.proofs.lemmas.Nat.Bits.{and_pow, bit_at-lt, bit_at_or, bit_at_and, bit_at-pow_other}
use Rattle.micro_claims.specs.Sets.{has}

pub has_self : (a : ℕ) → has a a ≡ true
has_self a = eq-eqb (bit_and a a) a (and_self a)

-- what is in a part is in the whole
pub has_more : (these part whole : ℕ) → has part whole ≡ true → has these part ≡ true → has these whole ≡ true
has_more these part whole within h =
    let inner : bit_and whole part ≡ part = eqb-true (bit_and whole part) part within in
    let outer : bit_and part these ≡ these = eqb-true (bit_and part these) these h in
    eq-eqb (bit_and whole these) these
    (ap (bit_and whole) (sym outer) ∙ (sym (and_assoc these whole part) ∙ (ap (λ (n : ℕ). bit_and n these) inner ∙ outer)))

-- each of two sets is in the set of both
pub has_first : (a b : ℕ) → has a (bit_or a b) ≡ true
has_first a b = eq-eqb (bit_and (bit_or a b) a) a (ap (λ (n : ℕ). bit_and n a) (or_comm a b) ∙ and_or_self a b)

pub has_second : (a b : ℕ) → has b (bit_or a b) ≡ true
has_second a b = eq-eqb (bit_and (bit_or a b) b) b (and_or_self b a)

-- ---- one member

-- it is in a set where its bit is
tested : (x k : ℕ) → x < 2 → 0 < k → (x * k == k) ≡ (x == 1)
tested zero k few some = let none : 0 * k ≡ 0 = omega arith in ap (λ (n : ℕ). n == k) none ∙ (let b : (0 == k) ≡ false = grind (arith, nat_tests, some) in b)
tested (suc zero) k few some = eq-eqb (1 * k) k (omega arith)
tested (suc (suc x)) k few some = absurd (omega (arith, few))

pub has_bit : (n a : ℕ) → has (2 ^ n) a ≡ (bit_at a n == 1)
has_bit n a = ap (λ (x : ℕ). x == 2 ^ n) (and_pow a n) ∙ tested (bit_at a n) (2 ^ n) (bit_at-lt a n) (pow_pos n)

-- it is in two sets together where it is in one of them
either_one : (x y : ℕ) → x < 2 → y < 2 → (max x y == 1) ≡ ((x == 1) || (y == 1))
either_one zero zero l m = refl
either_one zero (suc zero) l m = refl
either_one (suc zero) zero l m = refl
either_one (suc zero) (suc zero) l m = refl
either_one (suc (suc x)) y l m = absurd (omega (arith, l))
either_one zero (suc (suc y)) l m = absurd (omega (arith, m))
either_one (suc zero) (suc (suc y)) l m = absurd (omega (arith, m))

pub has_either : (n a b : ℕ) → has (2 ^ n) (bit_or a b) ≡ (has (2 ^ n) a || has (2 ^ n) b)
has_either n a b =
    has_bit n (bit_or a b) ∙ (ap (λ (x : ℕ). x == 1) (bit_at_or a b n)
    ∙ (either_one (bit_at a n) (bit_at b n) (bit_at-lt a n) (bit_at-lt b n) ∙ sym (λ i. has_bit n a i || has_bit n b i)))

-- it is in what two sets share where it is in both
both_one : (x y : ℕ) → x < 2 → y < 2 → (min x y == 1) ≡ ((x == 1) && (y == 1))
both_one zero zero l m = refl
both_one zero (suc zero) l m = refl
both_one (suc zero) zero l m = refl
both_one (suc zero) (suc zero) l m = refl
both_one (suc (suc x)) y l m = absurd (omega (arith, l))
both_one zero (suc (suc y)) l m = absurd (omega (arith, m))
both_one (suc zero) (suc (suc y)) l m = absurd (omega (arith, m))

pub has_both : (n a b : ℕ) → has (2 ^ n) (bit_and a b) ≡ (has (2 ^ n) a && has (2 ^ n) b)
has_both n a b =
    has_bit n (bit_and a b) ∙ (ap (λ (x : ℕ). x == 1) (bit_at_and a b n)
    ∙ (both_one (bit_at a n) (bit_at b n) (bit_at-lt a n) (bit_at-lt b n) ∙ sym (λ i. has_bit n a i && has_bit n b i)))

-- it shares a set's members where it is one of them
some_of : (x k : ℕ) → x < 2 → 0 < k → not (x * k == 0) ≡ (x * k == k)
some_of zero k few some = let none : 0 * k ≡ 0 = omega arith in ap (λ (n : ℕ). not (n == 0)) none ∙ (let b : false ≡ (0 == k) = grind (arith, nat_tests, some) in b ∙ ap (λ (n : ℕ). n == k) (sym none))
some_of (suc zero) k few some = let one : 1 * k ≡ k = omega arith in ap (λ (n : ℕ). not (n == 0)) one ∙ (let b : not (k == 0) ≡ true = grind (arith, nat_tests, some) in b ∙ sym (eq-eqb (1 * k) k one))
some_of (suc (suc x)) k few some = absurd (omega (arith, few))

pub shares_one : (n a : ℕ) → not (bit_and (2 ^ n) a == 0) ≡ has (2 ^ n) a
shares_one n a =
    let bits = and_comm (2 ^ n) a ∙ and_pow a n in
    ap (λ (x : ℕ). not (x == 0)) bits ∙ (some_of (bit_at a n) (2 ^ n) (bit_at-lt a n) (pow_pos n) ∙ ap (λ (x : ℕ). x == 2 ^ n) (sym (and_pow a n)))

pub has_none : (n : ℕ) → has (2 ^ n) 0 ≡ false
has_none n = let some = pow_pos n in (let b : (0 == 2 ^ n) ≡ false = grind (arith, nat_tests, some) in b)

-- of one member alone it is that one
pub has_only : (n m : ℕ) → has (2 ^ n) (2 ^ m) ≡ (n == m)
has_only n m = at (n == m) refl
  where
    at : (b : Bool) → (n == m) ≡ b → has (2 ^ n) (2 ^ m) ≡ b
    at true e = ap (λ (k : ℕ). has (2 ^ n) (2 ^ k)) (sym (eqb-true n m e)) ∙ has_self (2 ^ n)
    at false e = has_bit n (2 ^ m) ∙ ap (λ (x : ℕ). x == 1) (bit_at-pow_other m n (λ same. let is : (n == m) ≡ true = eq-eqb n m same in let clash : true ≡ false = sym is ∙ e in cc))
