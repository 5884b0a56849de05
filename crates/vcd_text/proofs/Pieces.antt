-- A text in pieces: the words of one that ends in white space, and of what comes after it.
use Rattle.std.proofs.Common.{◌≡◌, ◌<◌, ◌+◌, ℕ, suc, true, false, Bool, List, [], ◌∷◌, ◌++◌, zero, length, take, drop, get_or, refl, ap, sym, ◌∙◌, subst, arith, eqb}
use Rattle.std.proofs.lemmas.Bool.{leb-false, eqb-true}
use Rattle.std.proofs.Math.Seq.{drop-cons}
use Rattle.vcd_text.specs.Words.{Word, is_blank, line_after, ended, words_from, lines_from, IsCut}

pub rest_cut : (b : ℕ) (bytes : List ℕ) → IsCut (b ∷ bytes) → IsCut bytes
rest_cut b [] cut = tt
rest_cut b (c ∷ bytes) cut = cut

-- a byte of a word ends no line
pub same_line : (line b : ℕ) → is_blank b ≡ false → line_after line b ≡ line
same_line line b none = at (eqb b 10) refl
  where
    at : (is : Bool) → eqb b 10 ≡ is → line_after line b ≡ line
    at true is = absurd (omega (arith, leb-false b 32 none, eqb-true b 10 is))
    at false is = rw is refl

pub lines_on : (line i : ℕ) (text : List ℕ) → i < length text → is_blank (get_or text i 0) ≡ false → lines_from line (drop (i + 1) text) ≡ lines_from line (drop i text)
lines_on line i text within none =
    let next : suc i ≡ i + 1 = omega arith in
    subst (λ n. lines_from line (drop n text) ≡ lines_from line (drop i text)) next (
    let first : lines_from (line_after line (get_or text i 0)) (drop (suc i) text) ≡ lines_from line (drop (suc i) text) = ap (λ l. lines_from l (drop (suc i) text)) (same_line line (get_or text i 0) none) in
    sym (ap (lines_from line) (drop-cons text i 0 within) ∙ first))

pub cut_on : (i : ℕ) (text : List ℕ) → i < length text → IsCut (drop i text) → IsCut (drop (i + 1) text)
cut_on i text within cut =
    let next : suc i ≡ i + 1 = omega arith in
    subst (λ n. IsCut (drop n text)) next (rest_cut (get_or text i 0) (drop (suc i) text) (subst IsCut (drop-cons text i 0 within) cut))

-- a beginning of a text that ends in white space
pub cut_after : (n : ℕ) (text : List ℕ) → n < length text → is_blank (get_or text n 0) ≡ true → IsCut (take (suc n) text)
cut_after n [] within blank = absurd (omega (arith, within))
cut_after zero (b ∷ text) within blank = blank
cut_after (suc n) (b ∷ []) within blank = absurd (omega (arith, within))
cut_after (suc n) (b ∷ c ∷ text) within blank = cut_after n (c ∷ text) (omega (arith, within)) blank

append_ended : (line : ℕ) (front : List ℕ) (words more : List Word) → ended line front (words ++ more) ≡ ended line front words ++ more
append_ended line [] words more = refl
append_ended line (b ∷ front) words more = refl

-- ---- two pieces

-- a text in which no word goes on behind its end: nothing has begun, or something stands in it
abbrev Closes : List ℕ → List ℕ → Type 0
Closes front [] = front ≡ []
Closes front (b ∷ text) = IsCut (b ∷ text)

closes_rest : (front : List ℕ) (b : ℕ) (text : List ℕ) → is_blank b ≡ false → IsCut (b ∷ text) → Closes front text
closes_rest front b [] none cut = absurd cc
closes_rest front b (c ∷ text) none cut = cut

closes_after : (b : ℕ) (text : List ℕ) → IsCut (b ∷ text) → Closes [] text
closes_after b [] cut = refl
closes_after b (c ∷ text) cut = cut

joins_from : (line : ℕ) (front text more : List ℕ) → Closes front text → words_from line front (text ++ more) ≡ words_from line front text ++ words_from (lines_from line text) [] more
joins_from line front [] more none = rw none refl
joins_from line front (b ∷ text) more cut = at (is_blank b) refl (joins_from (line_after line b) [] text more) (joins_from line (front ++ b ∷ []) text more)
  where
    at : (is : Bool) → is_blank b ≡ is
        → (Closes [] text → words_from (line_after line b) [] (text ++ more) ≡ words_from (line_after line b) [] text ++ words_from (lines_from (line_after line b) text) [] more)
        → (Closes (front ++ b ∷ []) text → words_from line (front ++ b ∷ []) (text ++ more) ≡ words_from line (front ++ b ∷ []) text ++ words_from (lines_from line text) [] more)
        → words_from line front (b ∷ (text ++ more)) ≡ words_from line front (b ∷ text) ++ words_from (lines_from (line_after line b) text) [] more
    at true is ended_word goes = rw is (ap (ended line front) (ended_word (closes_after b text cut)) ∙ append_ended line front (words_from (line_after line b) [] text) (words_from (lines_from (line_after line b) text) [] more))
    at false is ended_word goes = rw is (rw (same_line line b is) (goes (closes_rest (front ++ b ∷ []) b text is cut)))

closes_cut : (text : List ℕ) → IsCut text → Closes [] text
closes_cut [] cut = refl
closes_cut (b ∷ text) cut = cut

-- the words of two pieces, of which the first ends in white space
pub joins : (line : ℕ) (text more : List ℕ) → IsCut text → words_from line [] (text ++ more) ≡ words_from line [] text ++ words_from (lines_from line text) [] more
joins line text more cut = joins_from line [] text more (closes_cut text cut)

pub lines_append : (line : ℕ) (text more : List ℕ) → lines_from line (text ++ more) ≡ lines_from (lines_from line text) more
lines_append line [] more = refl
lines_append line (b ∷ text) more = lines_append (line_after line b) text more
