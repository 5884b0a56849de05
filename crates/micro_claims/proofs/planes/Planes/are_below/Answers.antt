use Rattle.std.proofs.Common.{rules, ◌≡◌, ℕ, zero, suc, ◌*◌, ◌/◌, ◌^◌, ◌<◌, ◌≤◌, ◌==◌, Bool, true, false, nat_lt, leb, refl, sym, ◌∙◌, ap, arith}
use Rattle.std.proofs.Math.Nat.{div-eq_of_lt, lt-div-mul-add}
use Rattle.std.proofs.Math.Pow.{pow_mono}
use Rattle.std.proofs.lemmas.Bool.Decides.{nat_tests}
use Rattle.std.proofs.lemmas.Nat.{pow_pos}
use Rattle.micro_claims.proofs.planes.Planes.are_below.Goals as goal

high : (n count : ℕ) → n < 2 ^ 8 → 8 ≤ count → nat_lt n (2 ^ count) ≡ true
high n count small most = let more = pow_mono {i = 8} {j = count} most in let low : n < 2 ^ count = omega (arith, small, more) in grind (arith, nat_tests, low)

low : (n count : ℕ) → (n / 2 ^ count == 0) ≡ nat_lt n (2 ^ count)
low n count = at (nat_lt n (2 ^ count)) refl
  where
    at : (b : Bool) → nat_lt n (2 ^ count) ≡ b → (n / 2 ^ count == 0) ≡ nat_lt n (2 ^ count)
    at true e = let small : n < 2 ^ count = grind (arith, nat_tests, e) in ap (λ (q : ℕ). q == 0) (div-eq_of_lt small) ∙ sym e
    at false e = let more : 2 ^ count ≤ n = grind (arith, nat_tests, e) in some (n / 2 ^ count) refl more ∙ sym e
      where
        some : (q : ℕ) → n / 2 ^ count ≡ q → 2 ^ count ≤ n → (n / 2 ^ count == 0) ≡ false
        some zero i more = let under = lt-div-mul-add {a = n} {b = 2 ^ count} (pow_pos count) in let none : n / 2 ^ count * 2 ^ count ≡ 0 = ap (λ (q : ℕ). q * 2 ^ count) i ∙ omega arith in absurd (omega (arith, under, none, more))
        some (suc q) i more = (let b : (n / 2 ^ count == 0) ≡ false = grind (arith, nat_tests, i) in b)

pub returns-then-count-ge8 : goal.returns-then-count-ge8
returns-then-count-ge8 c = let ge : leb 8 c.args.count ≡ true = grind (arith, nat_tests, c.if-count-ge8.true) in ge ∙ sym (high c.args.self.0 c.args.count (search rules) c.if-count-ge8.true)

pub returns-else-count-ge8 : goal.returns-else-count-ge8
returns-else-count-ge8 c = low c.args.self.0 c.args.count
