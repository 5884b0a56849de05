-- A text whose loops and branches are nested is shaped for whoever goes by places.
use Rattle.std.proofs.Common.{◌≡◌, ℕ, suc, ◌+◌, List, [], ◌∷◌, refl, sym, ap, ◌∙◌, arith, length, drop}
use Rattle.micro_word.specs.declared.word.Word.{Word}
use Rattle.micro_word.specs.declared.word.Word.TheVariants.{BranchOnStatus, Loop, Next, Jump}
use Rattle.micro_program.specs.Lines.{Line, Unrolling, looped, word_before, unrolling}
use Rattle.micro_program.specs.Nested.{without_first, loops_before, loops, loops_at, LeadsForward, StandsIn, IsNested}
use Rattle.micro_program.specs.Places.{from_word, LeadsTo, FitsAt, IsShaped}
use Rattle.micro_program.proofs.Ways.{closes, leads}

-- as many loops follow as there are around
as_deep_before : (line : Line) (u : Unrolling) (at : ℕ) (around : List ℕ) (word : Word) → length u.outer ≡ length around → length (word_before line u word).outer ≡ length (loops_before at around word)
as_deep_before line u at around Next e = ap (λ (n : ℕ). suc n) e
as_deep_before line u at around (Loop turns) e = less u.outer around e
  where
    less : (o : List (List Line)) (l : List ℕ) → length o ≡ length l → length (looped line turns u.lines o).outer ≡ length (without_first l)
    less [] [] h = refl
    less [] (n ∷ l) h = absurd (omega (arith, h))
    less (x ∷ o) [] h = absurd (omega (arith, h))
    less (x ∷ o) (n ∷ l) h = omega (arith, h)
as_deep_before line u at around word e = e

as_deep : (words : List Word) (at : ℕ) → length (unrolling words at).outer ≡ length (loops words at)
as_deep [] at = refl
as_deep (word ∷ words) at = as_deep_before (record { at = at; word = word }) (unrolling words (at + 1)) at (loops words (at + 1)) word (as_deep words (at + 1))

none_follows : (o : List (List Line)) → length o ≡ 0 → o ≡ []
none_follows [] h = refl
none_follows (x ∷ o) h = absurd (omega (arith, h))

-- around the same loops the same follows
same_outer : (words : List Word) (a b : ℕ) → loops_at words a ≡ loops_at words b → (from_word words a).outer ≡ (from_word words b).outer
same_outer words a b e = at (loops_at words a) refl
  where
    empty : (c : ℕ) → loops_at words c ≡ [] → (from_word words c).outer ≡ []
    empty c h = none_follows (from_word words c).outer (as_deep (drop c words) c ∙ ap (length {A = ℕ}) h)

    at : (l : List ℕ) → loops_at words a ≡ l → (from_word words a).outer ≡ (from_word words b).outer
    at [] is = empty a is ∙ sym (empty b (sym e ∙ is))
    at (next ∷ rest) is =
        let c = closes (length words) words a next rest (omega arith) is in
        let d = closes (length words) words b next rest (omega arith) (sym e ∙ is) in
        c.outer ∙ sym d.outer

leads_to : (words : List Word) → IsNested words → (at target : ℕ) → LeadsForward words at target → LeadsTo words at target
leads_to words nested at target h =
    let l = leads words nested at target h in
    record { there = h.there; lines = l.lines; loops = same_outer words (at + 1) target l.loops }

fits : (words : List Word) → IsNested words → (at : ℕ) (word : Word) → StandsIn words at word → FitsAt words at word
fits words nested at (BranchOnStatus mask target) h = leads_to words nested at target h
fits words nested at (Jump target) h = leads_to words nested at target h
fits words nested at (Loop turns) h =
    let deep = as_deep (drop (at + 1) words) (at + 1) in
    let ends = h.ends in
    record { some = h.some; most = h.most; ends = omega (arith, deep, ends) }
fits words nested at word h = tt

pub nested_is_shaped : (words : List Word) → IsNested words → IsShaped words
nested_is_shaped words nested =
    record {
      paired = none_follows (from_word words 0).outer (as_deep words 0 ∙ ap (length {A = ℕ}) nested.paired);
      depth = λ at. let deep = as_deep (drop at words) at in let few = nested.depth at in omega (arith, deep, few);
      fits = λ at word e. fits words nested at word (nested.stands at word e);
    }
