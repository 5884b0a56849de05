-- Bytes written over a list one by one are the bytes of a part of it.
use Rattle.std.proofs.Common.{◌≡◌, ℕ, zero, suc, ◌+◌, ◌≤◌, List, [], ◌∷◌, ◌++◌, refl, sym, ap, ◌∙◌, arith, length, length-set, take, drop}
use Rattle.std.specs.List.{slice_set}
use Rattle.onfi_cycle.specs.Content.{written}

pub written_len : (bytes : List ℕ) (place : ℕ) (old : List ℕ) → length (written bytes place old) ≡ length old
written_len [] place old = refl
written_len (byte ∷ bytes) place old = written_len bytes (place + 1) (slice_set old place byte) ∙ length-set old place byte

written_behind : (bytes : List ℕ) (place x : ℕ) (old : List ℕ) → written bytes (suc place) (x ∷ old) ≡ x ∷ written bytes place old
written_behind [] place x old = refl
written_behind (byte ∷ bytes) place x old =
    let same : suc place + 1 ≡ suc (place + 1) = omega arith in
    ap (λ (n : ℕ). written bytes n (x ∷ slice_set old place byte)) same ∙ written_behind bytes (place + 1) x (slice_set old place byte)

written_first : (bytes old : List ℕ) → length bytes ≤ length old → written bytes 0 old ≡ bytes ++ drop (length bytes) old
written_first [] old h = refl
written_first (byte ∷ bytes) [] h = absurd (omega (arith, h))
written_first (byte ∷ bytes) (x ∷ old) h = let less : length bytes ≤ length old = omega (arith, h) in written_behind bytes 0 byte old ∙ ap (λ (xs : List ℕ). byte ∷ xs) (written_first bytes old less)

pub written_is : (bytes : List ℕ) (place : ℕ) (old : List ℕ) → place + length bytes ≤ length old → take place old ++ (bytes ++ drop (length bytes) (drop place old)) ≡ written bytes place old
written_is bytes zero old h = let less : length bytes ≤ length old = omega (arith, h) in sym (written_first bytes old less)
written_is bytes (suc place) [] h = absurd (omega (arith, h))
written_is bytes (suc place) (x ∷ old) h = let less : place + length bytes ≤ length old = omega (arith, h) in ap (λ (xs : List ℕ). x ∷ xs) (written_is bytes place old less) ∙ sym (written_behind bytes place x old)
