-- Byte by byte is pair by pair.
use Rattle.std.proofs.Common.{◌≡◌, ℕ, List, [], ◌∷◌, refl, ap, map}
use Rattle.std.specs.Prelude.{bit_and}
use Rattle.std.specs.List.{zip}
use Rattle.onfi_cycle.specs.Content.{and_bytes}

pub and_bytes_by_pairs : (old new : List ℕ) → and_bytes old new ≡ map (λ (p : ℕ × ℕ). bit_and p.0 p.1) (zip old new)
and_bytes_by_pairs [] new = refl
and_bytes_by_pairs (x ∷ old) [] = refl
and_bytes_by_pairs (x ∷ old) (y ∷ new) = ap (λ (bytes : List ℕ). bit_and x y ∷ bytes) (and_bytes_by_pairs old new)
