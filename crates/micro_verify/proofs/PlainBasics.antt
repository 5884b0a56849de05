-- Tests of numbers, and parts of a test.
use Rattle.std.proofs.Common.{◌≡◌, ℕ, ◌≤◌, ◌<◌, ◌==◌, true, false, nat_le, nat_lt, arith}
use Rattle.std.proofs.lemmas.Bool.Decides.{nat_tests}

pub le_test : (m n : ℕ) → m ≤ n → nat_le m n ≡ true
le_test m n h = grind (arith, nat_tests, h)

pub lt_test : (m n : ℕ) → m < n → nat_lt m n ≡ true
lt_test m n h = grind (arith, nat_tests, h)

pub not_lt_test : (m n : ℕ) → n ≤ m → nat_lt m n ≡ false
not_lt_test m n h = grind (arith, nat_tests, h)

pub not_le_test : (m n : ℕ) → n < m → nat_le m n ≡ false
not_le_test m n h = grind (arith, nat_tests, h)

pub not_zero : (n : ℕ) → 1 ≤ n → (n == 0) ≡ false
not_zero n h = grind (arith, nat_tests, h)
