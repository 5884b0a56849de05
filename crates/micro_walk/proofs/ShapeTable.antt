-- The table of what is around each place of a text, filled in from the right.
use Rattle.std.proofs.Common.{◌≡◌, ℕ, suc, ◌+◌, ◌<◌, ◌≤◌, ◌≢◌, List, [], ◌∷◌, Some, None, refl, sym, ap, ◌∙◌, subst, arith, length, length-drop, get_or, drop, ◌⊎◌, inl, inr}
use Rattle.std.specs.Prelude.{slice_set, replicate}
use Rattle.std.proofs.lemmas.List.{get_or-set_other, get_or-replicate}
use Rattle.std.proofs.lemmas.Grind.{get_or-set_at}
use Rattle.std.proofs.lemmas.Option.{slice_get-get_or, slice_get_within}
use Rattle.micro_word.specs.declared.word.Word.{Word}
use Rattle.micro_word.specs.declared.word.Word.TheVariants.{Loop, Next}
use Rattle.micro_walk.specs.declared.shape.Around.{Around}
use Rattle.micro_program.specs.Nested.{without_first, first_of, loops_before, loops, loops_at, closer}
use Rattle.micro_walk.specs.Shape.{no_loop, around, TellsFrom}
use Rattle.micro_walk.proofs.ShapeNested.{AreNexts, nexts}
use Rattle.micro_program.proofs.Ways.{drop_past, loops_here, closes}

-- ---- what is around a place

abbrev by_loops : List ℕ → Around
by_loops l = record { next = first_of l; depth = length l }

pub nothing_behind : (words : List Word) (at : ℕ) → length words ≤ at → around words at ≡ no_loop
nothing_behind words at past = ap (λ (ws : List Word). by_loops (loops ws at)) (drop_past words at past)

few_before : (at : ℕ) (around : List ℕ) (word : Word) → length (loops_before at around word) ≤ suc (length around)
few_before at around Next = omega arith
few_before at [] (Loop turns) = omega arith
few_before at (next ∷ rest) (Loop turns) = omega arith
few_before at around word = omega arith

few : (words : List Word) (at : ℕ) → length (loops words at) ≤ length words
few [] at = omega arith
few (word ∷ words) at =
    let here = few_before at (loops words (at + 1)) word in
    let later = few words (at + 1) in
    omega (arith, here, later)

few_left : (words : List Word) (at : ℕ) → length (drop at words) ≤ length words
few_left words at = omega (arith, length-drop {A = Word})

-- as many loops are around a place as there are words, at most
pub few_around : (words : List Word) (at : ℕ) (table : List Around) (from : ℕ) → TellsFrom words from table → from ≤ at → at ≤ 1024 → (get_or table at no_loop).depth ≤ length words
few_around words at table from told behind low =
    let is : (get_or table at no_loop).depth ≡ length (loops_at words at) = ap (λ (a : Around). a.depth) (told at behind low) in
    let most = few (drop at words) at in
    let left = few_left words at in
    omega (arith, is, most, left)

-- the `next` of the innermost loop around a place is further on, in the text
pub next_inside : (words : List Word) (at next : ℕ) → closer words at ≡ Some next → (at ≤ next) × (next < length words) × (loops_at words (next + 1) ≡ without_first (loops_at words at))
next_inside words at next e = choose (loops_at words at) refl e
  where
    choose : (l : List ℕ) → loops_at words at ≡ l → first_of (loops_at words at) ≡ Some next → (at ≤ next) × (next < length words) × (loops_at words (next + 1) ≡ without_first (loops_at words at))
    choose [] is first = let clash : None ≡ Some next = sym (ap first_of is) ∙ first in absurd cc
    choose (n ∷ rest) is first =
        let all : Some n ≡ Some next = sym (ap first_of is) ∙ first in
        let same : n ≡ next = cc in
        let here : loops_at words at ≡ next ∷ rest = is ∙ ap (λ (k : ℕ). k ∷ rest) same in
        let c = closes (length words) words at next rest (omega arith) here in
        let there = subst (AreNexts words) here (nexts (length words) words at (omega arith)) in
        (c.behind, slice_get_within words next _ there.0, c.loops ∙ ap without_first (sym here))

pub next_told : (words : List Word) (at next : ℕ) (table : List Around) → at < length words → length words ≤ 1024 → TellsFrom words (at + 1) table → (get_or table (at + 1) no_loop).next ≡ Some next → closer words (at + 1) ≡ Some next
next_told words at next table inside few told is = sym (ap (λ (a : Around). a.next) (told (at + 1) (omega arith) (omega (arith, inside, few)))) ∙ is

-- in front of a `loop` there are the loops that are behind its `next`
pub around_loop : (words : List Word) (at turns next : ℕ) (table : List Around) (d : Word) → at < length words → length words ≤ 1024 → TellsFrom words (at + 1) table → get_or words at d ≡ Loop turns → closer words (at + 1) ≡ Some next → get_or table (next + 1) no_loop ≡ around words at
around_loop words at turns next table d inside few told is e =
    let there = next_inside words (at + 1) next e in
    let before = there.0 in
    let last = there.1 in
    told (next + 1) (omega (arith, before)) (omega (arith, last, few))
    ∙ ap by_loops (there.2 ∙ sym (loops_here words at (Loop turns) (slice_get-get_or words at d inside ∙ ap (λ (w : Word). Some w) is)))

-- ---- the table

-- a table without loops tells already what is behind the words
pub nothing_told : (words : List Word) → TellsFrom words (length words) (replicate 1025 no_loop)
nothing_told words at past low = get_or-replicate 1025 at no_loop no_loop (omega (arith, low)) ∙ sym (nothing_behind words at past)

two_ways : (a b : ℕ) → a ≤ b → (b ≡ a) ⊎ (a < b)
two_ways a b h = grind arith

-- the table with one place more
pub tells_more : (words : List Word) (table : List Around) (before at : ℕ) (entry : Around) → at ≡ before + 1 → before < length table → TellsFrom words at table → entry ≡ around words before → TellsFrom words before (slice_set table before entry)
tells_more words table before at entry next inside told is k from low = elim (two_ways before k from) [
  | inl same ↦ get_or-set_at table before k entry no_loop same inside ∙ (is ∙ ap (around words) (sym same))
  | inr less ↦ (let other : k ≢ before = omega (arith, less) in get_or-set_other table before k entry no_loop other ∙ told k (omega (arith, less, next)) low)
]
