-- The digits of a number.
use Rattle.std.proofs.Common.{◌≡◌, ◌+◌, ◌-◌, ◌*◌, ◌<◌, ◌≤◌, ℕ, suc, Bool, true, false, List, [], ◌∷◌, ◌++◌, ◌&&◌, Some, None, length, take, get_or, refl, ap, sym, ◌∙◌, subst, arith}
use Rattle.std.specs.Prelude.{nat_lt, nat_le, Ok}
use Rattle.std.proofs.Math.Seq.{take-suc}
use Rattle.std.proofs.lemmas.Bool.{leb-true, lt-leb, le-leb, and_parts}
use Rattle.std.proofs.lemmas.List.{append-nil, append_assoc, length-append}
use Rattle.vcd_text.specs.declared.words.Words.{Words}
use Rattle.vcd_text.specs.declared.timed.Timed.{Timed}
use Rattle.vcd_text.specs.declared.body.Body.{Body}
use Rattle.vcd_text.specs.declared.body.Next.TheVariants as next
use Rattle.vcd_text.specs.Tokens.{is_digit, decimal_from, decimal}
use Rattle.vcd_text.specs.Words.{Word, is_blank, words_from, words_left, lines_from, IsCut, GoesOn}
use Rattle.vcd_text.specs.Body.{Widths, Told, Time, Anything, Tells, any_word, told_from}
use Rattle.vcd_text.specs.Shown.{shown_next, place_of, told_before}
use Rattle.vcd_text.specs.Scalars.{StartsBlank}
use Rattle.vcd_text.specs.Timed.{IsTimed}
use Rattle.vcd_text.proofs.Pieces.{rest_cut, same_line}

-- a number goes on by a digit
pub digit_more : (n : ℕ) (ds : List ℕ) (m b : ℕ) → decimal_from n ds ≡ Some m → is_digit b ≡ true → nat_lt m 1000000000000000000 ≡ true → decimal_from n (ds ++ b ∷ []) ≡ Some (10 * m + (b - 48))
digit_more n [] m b e digit few = let same : n ≡ m = cc in subst (λ k. decimal_from k (b ∷ []) ≡ Some (10 * m + (b - 48))) (sym same) (rw digit (rw few refl))
digit_more n (d ∷ ds) m b e digit few = at (is_digit d && nat_lt n 1000000000000000000) refl (λ rest. digit_more (10 * n + (d - 48)) ds m b rest digit few)
  where
    at : (is : Bool) → (is_digit d && nat_lt n 1000000000000000000) ≡ is → (decimal_from (10 * n + (d - 48)) ds ≡ Some m → decimal_from (10 * n + (d - 48)) (ds ++ b ∷ []) ≡ Some (10 * m + (b - 48)))
        → decimal_from n (d ∷ (ds ++ b ∷ [])) ≡ Some (10 * m + (b - 48))
    at true is next = rw is (next (sym (rw is refl) ∙ e))
    at false is next = let none : None ≡ Some m = sym (rw is refl) ∙ e in absurd cc

pub digits_on : (i : ℕ) (text : List ℕ) (m : ℕ) → i < length text → decimal_from 0 (take i text) ≡ Some m → is_digit (get_or text i 0) ≡ true → nat_lt m 1000000000000000000 ≡ true
    → decimal_from 0 (take (i + 1) text) ≡ Some (10 * m + (get_or text i 0 - 48))
digits_on i text m within e digit few =
    let next : suc i ≡ i + 1 = omega arith in
    subst (λ n. decimal_from 0 (take n text) ≡ Some (10 * m + (get_or text i 0 - 48))) next
    (ap (decimal_from 0) (take-suc text i 0 within) ∙ digit_more 0 (take i text) m (get_or text i 0) e digit few)

-- some digits are a number
pub some_digits : (ds : List ℕ) (m : ℕ) → 0 < length ds → decimal_from 0 ds ≡ Some m → decimal ds ≡ Some m
some_digits [] m some e = absurd (omega (arith, some))
some_digits (d ∷ ds) m some e = e

-- ---- a time in a line of its own

-- the test of a first digit
record IsFirst (n d : ℕ) (ds : List ℕ) (m : ℕ) : Type 0 where
  shown : is_blank d ≡ false
  rest : decimal_from (10 * n + (d - 48)) ds ≡ Some m

first_of : (n d : ℕ) (ds : List ℕ) (m : ℕ) → decimal_from n (d ∷ ds) ≡ Some m → IsFirst n d ds m
first_of n d ds m e = at (is_digit d) refl (nat_lt n 1000000000000000000) refl
  where
    shown : is_digit d ≡ true → is_blank d ≡ false
    shown is = lt-leb d 32 (omega (arith, leb-true 48 d (and_parts (nat_le 48 d) (nat_le d 57) is).0))

    at : (digit : Bool) → is_digit d ≡ digit → (few : Bool) → nat_lt n 1000000000000000000 ≡ few → IsFirst n d ds m
    at true is true few = record { shown = shown is; rest = sym (rw is (rw few refl)) ∙ e }
    at true is false few = let none : None ≡ Some m = sym (rw is (rw few refl)) ∙ e in absurd cc
    at false is b few = let none : None ≡ Some m = sym (rw is refl) ∙ e in absurd cc

digits_words : (line n m : ℕ) (front ds rest : List ℕ) → decimal_from n ds ≡ Some m → words_from line front (ds ++ rest) ≡ words_from line (front ++ ds) rest
digits_words line n m front [] rest e = ap (λ f. words_from line f rest) (sym (append-nil front))
digits_words line n m front (d ∷ ds) rest e =
    let first = first_of n d ds m e in
    rw first.shown (digits_words line (10 * n + (d - 48)) m (front ++ d ∷ []) ds rest first.rest ∙ ap (λ f. words_from line f rest) (append_assoc front (d ∷ []) ds))

digits_lines : (line n m : ℕ) (ds rest : List ℕ) → decimal_from n ds ≡ Some m → lines_from line (ds ++ rest) ≡ lines_from line rest
digits_lines line n m [] rest e = refl
digits_lines line n m (d ∷ ds) rest e =
    let first = first_of n d ds m e in
    ap (λ l. lines_from l (ds ++ rest)) (same_line line d first.shown) ∙ digits_lines line (10 * n + (d - 48)) m ds rest first.rest

from_zero : (ds : List ℕ) (m : ℕ) → decimal ds ≡ Some m → decimal_from 0 ds ≡ Some m
from_zero [] m e = absurd cc
from_zero (d ∷ ds) m e = e

ended_at : (line f : ℕ) (front rest : List ℕ) → StartsBlank rest → words_from line (f ∷ front) rest ≡ record { line = line; text = f ∷ front } ∷ words_from line [] rest
ended_at line f front [] blank = absurd blank
ended_at line f front (d ∷ rest) blank = rw blank refl

timed_words : (line m : ℕ) (ds rest : List ℕ) → decimal ds ≡ Some m → StartsBlank rest
    → words_from line [] (10 ∷ 35 ∷ (ds ++ rest)) ≡ record { line = line + 1; text = 35 ∷ ds } ∷ words_from (line + 1) [] rest
timed_words line m ds rest e blank = digits_words (line + 1) 0 m (35 ∷ []) ds rest (from_zero ds m e) ∙ ended_at (line + 1) 35 ds rest blank

says : (widths : Widths) (time m : ℕ) (ds : List ℕ) → decimal ds ≡ Some m → nat_le time m ≡ true → any_word widths time (35 ∷ ds) ≡ Ok (Tells (Time m))
says widths time m ds e later = rw e (rw later refl)

told_timed : (widths : Widths) (time at line m : ℕ) (ds rest : List ℕ) (later : List Word) → decimal ds ≡ Some m → StartsBlank rest → nat_le time m ≡ true
    → told_from widths (record { time = time; next = Anything }) at (words_from line [] (10 ∷ 35 ∷ (ds ++ rest)) ++ later)
    ≡ Ok (Time m) ∷ told_from widths (record { time = m; next = Anything }) (line + 1) (words_from (line + 1) [] rest ++ later)
told_timed widths time at line m ds rest later e blank on =
    ap (λ ws. told_from widths (record { time = time; next = Anything }) at (ws ++ later)) (timed_words line m ds rest e blank)
    ∙ rw (says widths time m ds e on) refl

-- a body goes on by a time
pub timed_told : (widths : Widths) (old new : Body) (t : Timed) (later : List Word) → IsTimed old.words.rest.now t → old.next ≡ next.Anything → old.time ≤ t.time
    → place_of new ≡ record { time = t.time; next = Anything } → new.line ≡ old.words.line + 1 → words_left new.words ≡ words_from (old.words.line + 1) [] t.rest.now
    → told_before widths old later ≡ Ok (Time t.time) ∷ told_before widths new later
timed_told widths old new t later is anything on place line left =
    ap (λ n. told_from widths (record { time = old.time; next = shown_next n }) old.line (words_left old.words ++ later)) anything
    ∙ (ap (λ text. told_from widths (record { time = old.time; next = Anything }) old.line (words_from old.words.line [] text ++ later)) is.line
    ∙ (told_timed widths old.time old.line old.words.line t.time t.digits.now t.rest.now later is.number is.rest (le-leb old.time t.time on)
    ∙ ap (λ (told : List Told). Ok (Time t.time) ∷ told) (
    ap (λ p. told_from widths p (old.words.line + 1) (words_from (old.words.line + 1) [] t.rest.now ++ later)) (sym place)
    ∙ (ap (λ l. told_from widths (place_of new) l (words_from (old.words.line + 1) [] t.rest.now ++ later)) (sym line)
    ∙ ap (λ ws. told_from widths (place_of new) new.line (ws ++ later)) (sym left)))))

cut_behind : (front rest : List ℕ) → IsCut (front ++ rest) → IsCut rest
cut_behind [] rest cut = cut
cut_behind (b ∷ front) rest cut = cut_behind front rest (rest_cut b (front ++ rest) cut)

pub timed_moves : (old new : Words) (t : Timed) → IsTimed old.rest.now t → new.line ≡ old.line + 1 → new.rest.now ≡ t.rest.now → GoesOn old new × (length new.rest.now < length old.rest.now)
timed_moves old new t is line rest =
    let all : length old.rest.now ≡ suc (suc (length t.digits.now + length t.rest.now)) = ap length is.line ∙ ap (λ n. suc (suc n)) (length-append t.digits.now t.rest.now) in
    let left : length new.rest.now ≡ length t.rest.now = ap length rest in (
      record {
        lines = ap (λ l. lines_from l new.rest.now) line ∙ (ap (lines_from (old.line + 1)) rest
            ∙ (sym (digits_lines (old.line + 1) 0 t.time t.digits.now t.rest.now (from_zero t.digits.now t.time is.number)) ∙ ap (lines_from old.line) (sym is.line)));
        cut = λ cut. subst IsCut (sym rest) (cut_behind (10 ∷ 35 ∷ t.digits.now) t.rest.now (subst IsCut is.line cut));
        room = omega (arith, all, left, line);
        shorter = omega (arith, all, left);
      },
      omega (arith, all, left),
    )
