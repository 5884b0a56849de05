-- Bytes that are all FF, looked at one by one.
use Rattle.std.proofs.Common.{◌≡◌, ◌≢◌, ℕ, zero, suc, ◌<◌, ◌≤◌, ◌==◌, Bool, true, false, ◌&&◌, List, [], ◌∷◌, length, get_or, drop, refl, sym, ap, ◌∙◌, arith, eq-eqb}
use Rattle.std.proofs.lemmas.Bool.Decides.{nat_tests}
use Rattle.std.proofs.Common.{◌++◌, append_assoc, rules}
use Rattle.nand_geometry.specs.declared.parts.Parts.{Parts}
use Rattle.die_model.specs.Image.{are_blank, entry, entries_of}

pub blank_step : (xs : List ℕ) (k d : ℕ) → k < length xs → get_or xs k d ≡ 255 → are_blank (drop (suc k) xs) ≡ are_blank (drop k xs)
blank_step [] k d low is = absurd (omega (arith, low))
blank_step (x ∷ xs) zero d low is = sym (ap (λ (b : Bool). b && are_blank xs) (eq-eqb x 255 is))
blank_step (x ∷ xs) (suc k) d low is = blank_step xs k d (omega (arith, low)) is

pub blank_stop : (xs : List ℕ) (k d : ℕ) → k < length xs → get_or xs k d ≢ 255 → are_blank (drop k xs) ≡ false
blank_stop [] k d low is = absurd (omega (arith, low))
blank_stop (x ∷ xs) zero d low is = ap (λ (b : Bool). b && are_blank xs) (differs x is)
  where
    differs : (x : ℕ) → x ≢ 255 → (x == 255) ≡ false
    differs x h = grind (arith, nat_tests)
blank_stop (x ∷ xs) (suc k) d low is = blank_stop xs k d (omega (arith, low)) is

pub blank_end : (xs : List ℕ) (k : ℕ) → length xs ≤ k → are_blank (drop k xs) ≡ true
blank_end [] zero h = refl
blank_end [] (suc k) h = refl
blank_end (x ∷ xs) zero h = absurd (omega (arith, h))
blank_end (x ∷ xs) (suc k) h = blank_end xs k (omega (arith, h))

-- the entries so far, and those still to be written
pub entries_step : (g : Parts) (out more all bytes b : List ℕ) (row : ℕ × ℕ) (rest left : List ((ℕ × ℕ) × List ℕ)) → more ≡ out ++ entry g row b → b ≡ bytes → rest ≡ (row, bytes) ∷ left → out ++ entries_of g rest ≡ all → more ++ entries_of g left ≡ all
entries_step g out more all bytes b row rest left em eb er h =
    ap (λ (o : List ℕ). o ++ entries_of g left) (em ∙ ap (λ (x : List ℕ). out ++ entry g row x) eb)
    ∙ (append_assoc out (entry g row bytes) (entries_of g left) ∙ (sym (ap (λ (r : List ((ℕ × ℕ) × List ℕ)). out ++ entries_of g r) er) ∙ h))

pub entries_end : (g : Parts) (out all : List ℕ) (rest : List ((ℕ × ℕ) × List ℕ)) → rest ≡ [] → out ++ entries_of g rest ≡ all → out ≡ all
entries_end g out all rest e h = sym (none_more out) ∙ (sym (ap (λ (r : List ((ℕ × ℕ) × List ℕ)). out ++ entries_of g r) e) ∙ h)
  where
    none_more : (xs : List ℕ) → xs ++ [] ≡ xs
    none_more xs = search rules
