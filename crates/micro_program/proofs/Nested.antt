-- The test of a text's shape says what its shape is.
use Rattle.std.proofs.Common.{◌≡◌, ℕ, ◌+◌, ◌<◌, ◌≤◌, ◌==◌, true, ◌&&◌, List, Option, Some, None, refl, ap, arith, length}
use Rattle.std.specs.Prelude.{nat_le, nat_lt}
use Rattle.std.proofs.lemmas.Bool.Decides.{nat_tests}
use Rattle.std.proofs.lemmas.Bool.{and_parts}
use Rattle.micro_word.specs.declared.word.Word.{Word}
use Rattle.micro_program.specs.Nested.{closer, LeadsForward, is_same, leads_forward}

le_of : (a b : ℕ) → nat_le a b ≡ true → a ≤ b
le_of a b h = grind (arith, nat_tests)

lt_of : (a b : ℕ) → nat_lt a b ≡ true → a < b
lt_of a b h = grind (arith, nat_tests)

same_of : (a b : Option ℕ) → is_same a b ≡ true → a ≡ b
same_of None None h = refl
same_of None (Some b) h = absurd cc
same_of (Some a) None h = absurd cc
same_of (Some a) (Some b) h = let same : a ≡ b = number a b h in ap (λ (n : ℕ). Some n) same
  where
    number : (a b : ℕ) → (a == b) ≡ true → a ≡ b
    number a b h = grind (arith, nat_tests)

pub forward : (words : List Word) (at target : ℕ) → leads_forward words at target ≡ true → LeadsForward words at target
forward words at target h =
    let p = and_parts (nat_lt at target) (nat_lt target (length words) && is_same (closer words (at + 1)) (closer words target)) h in
    let q = and_parts (nat_lt target (length words)) (is_same (closer words (at + 1)) (closer words target)) p.1 in
    record { forward = lt_of at target p.0; there = lt_of target (length words) q.0; same = same_of (closer words (at + 1)) (closer words target) q.1 }
