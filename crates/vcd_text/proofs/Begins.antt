-- The first byte of a word.
use Rattle.std.proofs.Common.{◌≡◌, ℕ, ◌<◌, List, [], ◌∷◌, ◌+◌, suc, false, subst, arith, length, take, drop, get_or, refl, ap, sym, ◌∙◌}
use Rattle.std.proofs.Math.Seq.{drop-cons, take-suc}
use Rattle.vcd_text.specs.Words.{is_blank, words_from, lines_from, IsCut, StartsWord}
use Rattle.vcd_text.proofs.Pieces.{same_line, rest_cut}

pub first_byte : (line : ℕ) (text : List ℕ) → 0 < length text → StartsWord text → words_from line [] text ≡ words_from line (take 1 text) (drop 1 text)
first_byte line [] some starts = refl
first_byte line (b ∷ bytes) some starts = rw starts refl

pub first_lines : (line : ℕ) (text : List ℕ) → 0 < length text → StartsWord text → lines_from line (drop 1 text) ≡ lines_from line text
first_lines line [] some starts = refl
first_lines line (b ∷ bytes) some starts = ap (λ l. lines_from l bytes) (sym (same_line line b starts))

pub first_cut : (text : List ℕ) → 0 < length text → IsCut text → IsCut (drop 1 text)
first_cut [] some cut = tt
first_cut (b ∷ bytes) some cut = rest_cut b bytes cut

-- a word goes on by a byte that isn't white space
pub word_on : (line i : ℕ) (text : List ℕ) → i < length text → is_blank (get_or text i 0) ≡ false
    → words_from line (take i text) (drop i text) ≡ words_from line (take (i + 1) text) (drop (i + 1) text)
word_on line i text within none =
    let next : suc i ≡ i + 1 = omega arith in
    subst (λ n. words_from line (take i text) (drop i text) ≡ words_from line (take n text) (drop n text)) next (
    ap (words_from line (take i text)) (drop-cons text i 0 within)
    ∙ rw none (ap (λ front. words_from line front (drop (suc i) text)) (sym (take-suc text i 0 within))))
