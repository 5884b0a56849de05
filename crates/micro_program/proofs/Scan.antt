-- The innermost loop around a place, found from there on.
use Rattle.std.proofs.Common.{◌≡◌, ℕ, suc, ◌+◌, ◌<◌, ◌≤◌, List, [], ◌∷◌, Some, None, refl, ap, ◌∙◌, arith, length, get_or}
use Rattle.std.specs.List.{slice_get}
use Rattle.std.proofs.lemmas.Option.{slice_get-get_or}
use Rattle.micro_word.specs.declared.word.Word.{Word}
use Rattle.micro_word.specs.declared.word.Word.TheVariants.{Loop, Next}
use Rattle.micro_program.specs.Nested.{without_first, first_of, loops_before, loops, loops_at, closer}
use Rattle.micro_program.proofs.Ways.{drop_past, loops_here}

pub scan_begins : (words : List Word) (at : ℕ) → closer words at ≡ slice_get (loops_at words at) 0
scan_begins words at = first (loops_at words at)
  where
    first : (l : List ℕ) → first_of l ≡ slice_get l 0
    first [] = refl
    first (n ∷ l) = refl

here : (words : List Word) (at depth : ℕ) (word d : Word) → at < length words → get_or words at d ≡ word → slice_get (loops_at words at) depth ≡ slice_get (loops_before at (loops_at words (at + 1)) word) depth
here words at depth word d inside is = ap (λ (l : List ℕ). slice_get l depth) (loops_here words at word (slice_get-get_or words at d inside ∙ ap (λ (w : Word). Some w) is))

pub scan_finds : (words : List Word) (at : ℕ) (d : Word) → at < length words → get_or words at d ≡ Next → slice_get (loops_at words at) 0 ≡ Some at
scan_finds words at d inside is = here words at 0 Next d inside is

pub scan_next : (words : List Word) (at depth less : ℕ) (d : Word) → at < length words → get_or words at d ≡ Next → depth ≡ suc less → slice_get (loops_at words at) depth ≡ slice_get (loops_at words (at + 1)) less
scan_next words at depth less d inside is e = ap (slice_get (loops_at words at)) e ∙ here words at (suc less) Next d inside is

pub scan_loop : (words : List Word) (at depth : ℕ) (turns : ℕ) (d : Word) → at < length words → get_or words at d ≡ Loop turns → slice_get (loops_at words at) depth ≡ slice_get (loops_at words (at + 1)) (depth + 1)
scan_loop words at depth turns d inside is =
    let next : suc depth ≡ depth + 1 = omega arith in
    here words at depth (Loop turns) d inside is ∙ (skip (loops_at words (at + 1)) ∙ ap (slice_get (loops_at words (at + 1))) next)
  where
    skip : (l : List ℕ) → slice_get (without_first l) depth ≡ slice_get l (suc depth)
    skip [] = refl
    skip (n ∷ l) = refl

pub scan_word : (words : List Word) (at depth : ℕ) (d : Word) → at < length words → loops_before at (loops_at words (at + 1)) (get_or words at d) ≡ loops_at words (at + 1) → slice_get (loops_at words at) depth ≡ slice_get (loops_at words (at + 1)) depth
scan_word words at depth d inside same = here words at depth (get_or words at d) d inside refl ∙ ap (λ (l : List ℕ). slice_get l depth) same

pub scan_ends : (words : List Word) (at depth : ℕ) → length words ≤ at → slice_get (loops_at words at) depth ≡ None
scan_ends words at depth past = ap (λ (ws : List Word). slice_get (loops ws at) depth) (drop_past words at past)

-- a word that is no loop and no `next` changes nothing of the loops around
pub loops_stay : (at : ℕ) (around : List ℕ) (word : Word) → (word ≡ Next → ⊥) → ((turns : ℕ) → word ≡ Loop turns → ⊥) → loops_before at around word ≡ around
loops_stay at around Next not_next not_loop = absurd (not_next refl)
loops_stay at around (Loop turns) not_next not_loop = absurd (not_loop turns refl)
loops_stay at around word not_next not_loop = refl
