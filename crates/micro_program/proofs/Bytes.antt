-- The bytes of an address of which only the column is wanted.
use Rattle.std.proofs.Common.{◌≡◌, ℕ, zero, suc, ◌+◌, ◌≤◌, [], ◌∷◌, refl, arith}
use Rattle.micro_program.specs.Moves.{part}

pub short_part : (a b from count : ℕ) → from + count ≤ 2 → part from count (a ∷ (b ∷ [])) ≡ part from count (a ∷ (b ∷ (0 ∷ (0 ∷ (0 ∷ [])))))
short_part a b zero zero h = refl
short_part a b zero (suc zero) h = refl
short_part a b zero (suc (suc zero)) h = refl
short_part a b zero (suc (suc (suc n))) h = absurd (omega arith)
short_part a b (suc zero) zero h = refl
short_part a b (suc zero) (suc zero) h = refl
short_part a b (suc zero) (suc (suc n)) h = absurd (omega arith)
short_part a b (suc (suc zero)) zero h = refl
short_part a b (suc (suc zero)) (suc n) h = absurd (omega arith)
short_part a b (suc (suc (suc m))) count h = absurd (omega arith)
