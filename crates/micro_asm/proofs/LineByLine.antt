-- The lines of a text, one after another.
use Rattle.std.proofs.Common.{◌≡◌, ℕ, ◌+◌, Bool, true, false, cond, eqb, List, [], ◌∷◌, length, refl, sym, ap, ◌∙◌, arith}
use Rattle.std.specs.List.{slice_split, onto_first}
use Rattle.std.proofs.lemmas.Bool.{eqb-true}
use Rattle.micro_asm.specs.Line.{fields, before_comment, begins_word}
use Rattle.micro_asm.specs.Reading.{lines, lines_of, last_word}

abbrev pub is_feed : ℕ → Bool
is_feed b = eqb b 10

-- a text has a part, though it may be empty
pub some_part : (test : ℕ → Bool) (bs : List ℕ) → (a : List ℕ) × (more : List (List ℕ)) × (slice_split test bs ≡ a ∷ more)
some_part test [] = ([], [], refl)
some_part test (b ∷ bs) = at (test b) (slice_split test bs)
  where
    at : (t : Bool) (fs : List (List ℕ)) → (a : List ℕ) × (more : List (List ℕ)) × (cond t ([] ∷ fs) (onto_first b fs) ≡ a ∷ more)
    at true fs = ([], fs, refl)
    at false [] = (b ∷ [], [], refl)
    at false (f ∷ fs) = (b ∷ f, fs, refl)

pub line_first : (text front after : List ℕ) → slice_split is_feed text ≡ front ∷ slice_split is_feed after → lines text ≡ front ∷ lines after
unfolding lines
line_first text front after e =
    let part = some_part is_feed after in
    ap lines_of (e ∙ ap (λ (ls : List (List ℕ)). front ∷ ls) part.2) ∙ ap (λ (ls : List (List ℕ)). front ∷ lines_of ls) (sym part.2)

pub line_last : (text : List ℕ) → slice_split is_feed text ≡ text ∷ [] → eqb (length text) 0 ≡ false → lines text ≡ text ∷ lines []
unfolding lines
line_last [] e some = absurd cc
line_last (b ∷ text) e some = ap lines_of e

pub line_none : (text : List ℕ) → eqb (length text) 0 ≡ true → lines text ≡ []
unfolding lines
line_none [] e = refl
line_none (b ∷ text) e = absurd (omega (arith, eqb-true (length (b ∷ text)) 0 e))

pub last_more : (found next n : ℕ) (ls rest : List (List ℕ)) (l : List ℕ) → ls ≡ l ∷ rest → next ≡ cond (begins_word (fields (before_comment l))) n found → last_word next (n + 1) rest ≡ last_word found n ls
unfolding last_word
last_more found next n ls rest l e is = ap (λ (f : ℕ). last_word f (n + 1) rest) is ∙ sym (ap (last_word found n) e)

pub last_done : (found n : ℕ) (ls : List (List ℕ)) → ls ≡ [] → last_word found n ls ≡ found
unfolding last_word
last_done found n ls e = ap (last_word found n) e

pub picks_first : (t : Bool) (x a b : ℕ) → t ≡ true → x ≡ a → x ≡ cond t a b
picks_first t x a b is_true is = rw is_true is

pub picks_second : (t : Bool) (x a b : ℕ) → t ≡ false → x ≡ b → x ≡ cond t a b
picks_second t x a b is_false is = rw is_false is
