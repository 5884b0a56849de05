-- Places of a text: the lines from a place on, and the loops around it.
use Rattle.std.proofs.Common.{◌≡◌, ℕ, zero, suc, ◌+◌, ◌<◌, ◌≤◌, ◌==◌, Bool, true, false, cond, List, [], ◌∷◌, ◌++◌, Option, Some, None, refl, sym, ap, ap₂, ◌∙◌, subst, arith, length, drop, append_assoc, ◌⊎◌, inl, inr}
use Rattle.std.specs.List.{slice_get}
use Rattle.std.proofs.lemmas.Bool.Decides.{nat_tests}
use Rattle.micro_word.specs.declared.word.Word.{Word}
use Rattle.micro_word.specs.declared.word.Word.TheVariants.{Loop, Next}
use Rattle.micro_program.specs.Lines.{Line, Unrolling, repeated, looped, word_before, unrolling, from_place}
use Rattle.micro_program.specs.Nested.{without_first, first_of, loops_before, loops, loops_at, closer, LeadsForward, StandsIn, IsNested}

-- the lines from a place of a text on, and what follows each loop around it
abbrev pub from_word : List Word → ℕ → Unrolling
from_word words at = unrolling (drop at words) at

abbrev pub line_of : ℕ → Word → Line
line_of at word = record { at = at; word = word }

pub drop_here : (words : List Word) (at : ℕ) (word : Word) → slice_get words at ≡ Some word → drop at words ≡ word ∷ drop (at + 1) words
drop_here [] at word e = absurd cc
drop_here (first ∷ words) zero word e = let same : first ≡ word = cc in ap (λ w. w ∷ words) same
drop_here (first ∷ words) (suc at) word e =
    let next : suc at + 1 ≡ suc (at + 1) = omega arith in
    drop_here words at word e ∙ ap (λ (k : ℕ). word ∷ drop k (first ∷ words)) (sym next)

pub word_here : (words : List Word) (at : ℕ) → at < length words → (word : Word) × (slice_get words at ≡ Some word)
word_here [] at h = absurd (omega (arith, h))
word_here (first ∷ words) zero h = (first, refl)
word_here (first ∷ words) (suc at) h = word_here words at (omega (arith, h))

pub drop_past : (words : List Word) (at : ℕ) → length words ≤ at → drop at words ≡ []
drop_past [] zero h = refl
drop_past [] (suc at) h = refl
drop_past (first ∷ words) zero h = absurd (omega (arith, h))
drop_past (first ∷ words) (suc at) h = drop_past words at (omega (arith, h))

pub past_of : (words : List Word) (at : ℕ) → slice_get words at ≡ None → length words ≤ at
past_of [] at e = omega arith
past_of (first ∷ words) zero e = absurd cc
past_of (first ∷ words) (suc at) e = let h = past_of words at e in omega (arith, h)

pub unrolled_here : (words : List Word) (at : ℕ) (word : Word) → slice_get words at ≡ Some word → from_word words at ≡ word_before (line_of at word) (from_word words (at + 1)) word
unrolled_here words at word e = ap (λ (ws : List Word). unrolling ws at) (drop_here words at word e)

pub loops_here : (words : List Word) (at : ℕ) (word : Word) → slice_get words at ≡ Some word → loops_at words at ≡ loops_before at (loops_at words (at + 1)) word
loops_here words at word e = ap (λ (ws : List Word). loops ws at) (drop_here words at word e)

-- the `next` of the innermost loop around a place, and what follows it
pub record Closes (words : List Word) (at next : ℕ) (rest : List ℕ) : Type 0 where
  pub behind : at ≤ next
  pub loops : loops_at words (next + 1) ≡ rest
  pub outer : (from_word words at).outer ≡ (from_word words (next + 1)).lines ∷ (from_word words (next + 1)).outer

-- the loops around a place, by its word and the loops around the next place
closes_here : (words : List Word) (at next : ℕ) (rest : List ℕ) (word : Word) (u : Unrolling) (around : List ℕ)
    → ((at2 next2 : ℕ) (rest2 : List ℕ) → at < at2 → loops_at words at2 ≡ next2 ∷ rest2 → Closes words at2 next2 rest2)
    → u ≡ from_word words (at + 1) → around ≡ loops_at words (at + 1)
    → from_word words at ≡ word_before (line_of at word) u word → loops_before at around word ≡ next ∷ rest → Closes words at next rest
closes_here words at next rest Next u around later is_u is_around here e =
    let same : at ≡ next = cc in
    let after : around ≡ rest = cc in
    subst (λ (k : ℕ). Closes words at k rest) same
    (record {
      behind = omega arith;
      loops = sym is_around ∙ after;
      outer = ap (λ (x : Unrolling). x.outer) here ∙ ap (λ (x : Unrolling). x.lines ∷ x.outer) is_u;
    })
closes_here words at next rest (Loop turns) u [] later is_u is_around here e = absurd cc
closes_here words at next rest (Loop turns) u (next2 ∷ around) later is_u is_around here e =
    let inner = later (at + 1) next2 around (omega arith) (sym is_around) in
    let outer = later (next2 + 1) next rest (let b = inner.behind in omega (arith, b)) (inner.loops ∙ e) in
    record {
      behind = let a = inner.behind in let b = outer.behind in omega (arith, a, b);
      loops = outer.loops;
      outer = ap (λ (x : Unrolling). x.outer) here ∙ (leaves (u.outer) (from_word words (next2 + 1)).lines (from_word words (next2 + 1)).outer (ap (λ (x : Unrolling). x.outer) is_u ∙ inner.outer) ∙ outer.outer);
    }
  where
    leaves : (o : List (List Line)) (lines : List Line) (more : List (List Line)) → o ≡ lines ∷ more → (looped (line_of at (Loop turns)) turns u.lines o).outer ≡ more
    leaves [] lines more e = absurd cc
    leaves (first ∷ o) lines more e = cc
closes_here words at next rest word u around later is_u is_around here e =
    let inner = later (at + 1) next rest (omega arith) (sym is_around ∙ e) in
    record {
      behind = let a = inner.behind in omega (arith, a);
      loops = inner.loops;
      outer = ap (λ (x : Unrolling). x.outer) here ∙ (ap (λ (x : Unrolling). x.outer) is_u ∙ inner.outer);
    }

pub closes : (fuel : ℕ) (words : List Word) (at next : ℕ) (rest : List ℕ) → length words ≤ at + fuel → loops_at words at ≡ next ∷ rest → Closes words at next rest
closes zero words at next rest h e =
    let none : loops_at words at ≡ [] = ap (λ (ws : List Word). loops ws at) (drop_past words at (omega (arith, h))) in
    let clash : (next ∷ rest) ≡ [] = sym e ∙ none in
    absurd cc
closes (suc fuel) words at next rest h e = choose (slice_get words at) refl (λ at2 next2 rest2 lt e2. closes fuel words at2 next2 rest2 (omega (arith, h, lt)) e2)
  where
    choose : (o : Option Word) → slice_get words at ≡ o → ((at2 next2 : ℕ) (rest2 : List ℕ) → at < at2 → loops_at words at2 ≡ next2 ∷ rest2 → Closes words at2 next2 rest2) → Closes words at next rest
    choose None is later =
        let none : loops_at words at ≡ [] = ap (λ (ws : List Word). loops ws at) (drop_past words at (past_of words at is)) in
        let clash : (next ∷ rest) ≡ [] = sym e ∙ none in
        absurd cc
    choose (Some word) is later =
        closes_here words at next rest word (from_word words (at + 1)) (loops_at words (at + 1)) later refl refl (unrolled_here words at word is) (sym (loops_here words at word is) ∙ e)

-- a place has a line
first_line : (line : Line) (u : Unrolling) (word : Word) → (more : List Line) × ((word_before line u word).lines ≡ line ∷ more)
first_line line u Next = ([], refl)
first_line line u (Loop turns) = looped_first u.outer
  where
    looped_first : (o : List (List Line)) → (more : List Line) × ((looped line turns u.lines o).lines ≡ line ∷ more)
    looped_first [] = (u.lines, refl)
    looped_first (rest ∷ o) = (repeated turns u.lines ++ rest, refl)
first_line line u word = (u.lines, refl)

pub some_line : (words : List Word) (at : ℕ) → at < length words → (line : Line) × (more : List Line) × ((from_word words at).lines ≡ line ∷ more) × (line.at ≡ at)
some_line words at h =
    let word = word_here words at h in
    let first = first_line (line_of at word.0) (from_word words (at + 1)) word.0 in
    (line_of at word.0, first.0, ap (λ (x : Unrolling). x.lines) (unrolled_here words at word.0 word.1) ∙ first.1, refl)

from_place_on : (target : ℕ) (lines : List Line) (line : Line) (found more : List Line) → from_place target lines ≡ line ∷ found → from_place target (lines ++ more) ≡ (line ∷ found) ++ more
from_place_on target [] line found more e = absurd cc
from_place_on target (first ∷ lines) line found more e = at (first.at == target) e (from_place_on target lines line found more)
  where
    at : (b : Bool) → cond b (first ∷ lines) (from_place target lines) ≡ line ∷ found → (from_place target lines ≡ line ∷ found → from_place target (lines ++ more) ≡ (line ∷ found) ++ more) → cond b (first ∷ (lines ++ more)) (from_place target (lines ++ more)) ≡ (line ∷ found) ++ more
    at true e ih = ap (λ (x : List Line). x ++ more) e
    at false e ih = ih e

-- ---- branches

-- the word at a place: the `next` of the innermost loop, a `loop` with its `next`, or a word that changes nothing of the loops around
pub data Way (words : List Word) (at : ℕ) (around : List ℕ) : Type 0 where
  by_next : (rest : List ℕ) → around ≡ at ∷ rest → (from_word words at).lines ≡ line_of at Next ∷ [] → Way words at around
  by_loop :
      (turns next : ℕ) → at < next → loops_at words (at + 1) ≡ next ∷ around → loops_at words (next + 1) ≡ around
      → (from_word words at).lines ≡ line_of at (Loop turns) ∷ (repeated turns (from_word words (at + 1)).lines ++ (from_word words (next + 1)).lines) → Way words at around
  by_word :
      (word : Word) → loops_at words (at + 1) ≡ around → (from_word words at).lines ≡ line_of at word ∷ (from_word words (at + 1)).lines → Way words at around

way_of : (words : List Word) (at : ℕ) (word : Word) → StandsIn words at word → (from_word words at).lines ≡ (word_before (line_of at word) (from_word words (at + 1)) word).lines → Way words at (loops_before at (loops_at words (at + 1)) word)
way_of words at Next stands e = by_next (loops_at words (at + 1)) refl e
way_of words at (Loop turns) stands e = choose (loops_at words (at + 1)) refl stands.ends
  where
    lines_of : (o : List (List Line)) (behind : List Line) (outer : List (List Line)) → o ≡ behind ∷ outer → (looped (line_of at (Loop turns)) turns (from_word words (at + 1)).lines o).lines ≡ line_of at (Loop turns) ∷ (repeated turns (from_word words (at + 1)).lines ++ behind)
    lines_of [] behind outer e = absurd cc
    lines_of (rest ∷ o) behind outer e = let same : rest ≡ behind = cc in ap (λ (x : List Line). line_of at (Loop turns) ∷ (repeated turns (from_word words (at + 1)).lines ++ x)) same

    choose : (around : List ℕ) → loops_at words (at + 1) ≡ around → 1 ≤ length around → Way words at (without_first around)
    choose [] is some = absurd (omega (arith, some))
    choose (next ∷ rest) is some =
        let c = closes (length words) words (at + 1) next rest (omega arith) is in
        by_loop turns next (let b = c.behind in omega (arith, b)) is c.loops
        (e ∙ lines_of (from_word words (at + 1)).outer (from_word words (next + 1)).lines (from_word words (next + 1)).outer c.outer)
way_of words at word stands e = by_word word refl e

pub way_at : (words : List Word) → IsNested words → (at : ℕ) → at < length words → Way words at (loops_at words at)
way_at words nested at h =
    let word = word_here words at h in
    subst (Way words at) (sym (loops_here words at word.0 word.1))
    (way_of words at word.0 (nested.stands at word.0 word.1) (ap (λ (x : Unrolling). x.lines) (unrolled_here words at word.0 word.1)))

same_or_not : (a b : ℕ) → a ≤ b → (a ≡ b) ⊎ (a < b)
same_or_not a b h = grind arith

two_ways : (a b : ℕ) → (a ≤ b) ⊎ (b < a)
two_ways a b = grind arith

not_same : (a b : ℕ) → a < b → (a == b) ≡ false
not_same a b h = grind (arith, nat_tests)

-- inside a loop there is one loop more around a place than outside
deeper : (fuel : ℕ) (words : List Word) → IsNested words → (at to next : ℕ) (rest : List ℕ) → to ≤ at + fuel → at ≤ to → to < length words → to ≤ next → loops_at words at ≡ next ∷ rest → suc (length rest) ≤ length (loops_at words to)
deeper zero words nested at to next rest few before there inside e =
    let same : at ≡ to = omega (arith, few, before) in
    let here : length (loops_at words to) ≡ suc (length rest) = ap (λ (k : ℕ). length (loops_at words k)) (sym same) ∙ ap (length {A = ℕ}) e in
    omega (arith, here)
deeper (suc fuel) words nested at to next rest few before there inside e =
    elim (same_or_not at to before) [
      | inl same ↦ here same
      | inr less ↦ go less (subst (Way words at) e (way_at words nested at (omega (arith, less, there)))) (λ at2 next2 rest2 lt le. deeper fuel words nested at2 to next2 rest2 (omega (arith, few, lt)) le there)
    ]
  where
    here : at ≡ to → suc (length rest) ≤ length (loops_at words to)
    here same = let is : length (loops_at words to) ≡ suc (length rest) = ap (λ (k : ℕ). length (loops_at words k)) (sym same) ∙ ap (length {A = ℕ}) e in omega (arith, is)

    go : at < to → Way words at (next ∷ rest) → ((at2 next2 : ℕ) (rest2 : List ℕ) → at < at2 → at2 ≤ to → to ≤ next2 → loops_at words at2 ≡ next2 ∷ rest2 → suc (length rest2) ≤ length (loops_at words to)) → suc (length rest) ≤ length (loops_at words to)
    go less (by_next rest2 is lines) ih = let same : next ≡ at = cc in absurd (omega (arith, same, less, inside))
    go less (by_loop turns next2 ahead is is_behind lines) ih =
        elim (two_ways to next2) [
          | inl le ↦ (let more = ih (at + 1) next2 (next ∷ rest) (omega arith) (omega (arith, less)) le is in omega (arith, more))
          | inr lt ↦ ih (next2 + 1) next rest (omega (arith, ahead)) (omega (arith, lt)) inside is_behind
        ]
    go less (by_word word is lines) ih = ih (at + 1) next rest (omega arith) (omega (arith, less)) inside is

-- where loops are around a place, it is in the text
loop_inside : (words : List Word) (at next : ℕ) (rest : List ℕ) → loops_at words at ≡ next ∷ rest → at < length words
loop_inside words at next rest e = elim (two_ways (length words) at) [
  | inl past ↦ (
      let none : loops_at words at ≡ [] = ap (λ (ws : List Word). loops ws at) (drop_past words at past) in
      let clash : (next ∷ rest) ≡ [] = sym e ∙ none in
      absurd cc)
  | inr inside ↦ inside
]

-- the same innermost loop has the same loops around it
same_loops : (words : List Word) (a b : ℕ) → closer words a ≡ closer words b → loops_at words a ≡ loops_at words b
same_loops words a b e = at (loops_at words a) refl (loops_at words b) refl e
  where
    at : (x : List ℕ) → loops_at words a ≡ x → (y : List ℕ) → loops_at words b ≡ y → first_of x ≡ first_of y → loops_at words a ≡ loops_at words b
    at [] is_x [] is_y h = is_x ∙ sym is_y
    at (n ∷ x) is_x [] is_y h = absurd cc
    at [] is_x (m ∷ y) is_y h = absurd cc
    at (n ∷ x) is_x (m ∷ y) is_y h =
        let same : n ≡ m = cc in
        let c = closes (length words) words a n x (omega arith) is_x in
        let d = closes (length words) words b m y (omega arith) is_y in
        let rests : x ≡ y = sym c.loops ∙ (ap (λ (k : ℕ). loops_at words (k + 1)) same ∙ d.loops) in
        is_x ∙ (ap₂ (λ (k : ℕ) (r : List ℕ). k ∷ r) same rests ∙ sym is_y)

-- a place's own line is found first
found_here : (words : List Word) (at target : ℕ) → at ≡ target → target < length words → from_place target (from_word words at).lines ≡ (from_word words target).lines
found_here words at target same there =
    let some = some_line words target there in
    let is : (some.0.at == target) ≡ true = grind (arith, nat_tests) in
    ap (λ (k : ℕ). from_place target (from_word words k).lines) same
    ∙ (ap (from_place target) some.2 ∙ (ap (λ (b : Bool). cond b (some.0 ∷ some.1) (from_place target some.1)) is ∙ sym some.2))

-- the lines of a loop are left out, where the target is behind the loop
left_out : (target : ℕ) (line : Line) (lines : List Line) → line.at < target → from_place target (line ∷ lines) ≡ from_place target lines
left_out target line lines h = ap (λ (b : Bool). cond b (line ∷ lines) (from_place target lines)) (not_same line.at target h)

all_left_out : (turns target : ℕ) (lines more : List Line) → ((behind : List Line) → from_place target (lines ++ behind) ≡ from_place target behind) → from_place target (repeated turns lines ++ more) ≡ from_place target more
all_left_out zero target lines more h = refl
all_left_out (suc turns) target lines more h =
    ap (from_place target) (append_assoc lines (repeated turns lines) more) ∙ (h (repeated turns lines ++ more) ∙ all_left_out turns target lines more h)

skipped : (fuel : ℕ) (words : List Word) → IsNested words → (at target next : ℕ) (rest : List ℕ) → length words ≤ at + fuel → at < length words → next < target → loops_at words at ≡ next ∷ rest → (more : List Line) → from_place target ((from_word words at).lines ++ more) ≡ from_place target more
skipped zero words nested at target next rest few there behind e more = absurd (omega (arith, few, there))
skipped (suc fuel) words nested at target next rest few there behind e more =
    go (subst (Way words at) e (way_at words nested at there))
    (λ at2 next2 rest2 lt before is more2. skipped fuel words nested at2 target next2 rest2 (omega (arith, few, lt)) (loop_inside words at2 next2 rest2 is) before is more2)
  where
    lines_are : (lines : List Line) → (from_word words at).lines ≡ lines → from_place target (lines ++ more) ≡ from_place target more → from_place target ((from_word words at).lines ++ more) ≡ from_place target more
    lines_are lines is h = ap (λ (x : List Line). from_place target (x ++ more)) is ∙ h

    go : Way words at (next ∷ rest) → ((at2 next2 : ℕ) (rest2 : List ℕ) → at < at2 → next2 < target → loops_at words at2 ≡ next2 ∷ rest2 → (more2 : List Line) → from_place target ((from_word words at2).lines ++ more2) ≡ from_place target more2) → from_place target ((from_word words at).lines ++ more) ≡ from_place target more
    go (by_next rest2 is lines) ih = let same : next ≡ at = cc in lines_are _ lines (left_out target (line_of at Next) more (omega (arith, same, behind)))
    go (by_loop turns next2 ahead is is_behind lines) ih =
        let c = closes (length words) words (next2 + 1) next rest (omega arith) is_behind in
        let before : next2 < target = (let b = c.behind in omega (arith, b, behind)) in
        let body = (from_word words (at + 1)).lines in
        let after = (from_word words (next2 + 1)).lines in
        lines_are _ lines
        (left_out target (line_of at (Loop turns)) ((repeated turns body ++ after) ++ more) (omega (arith, ahead, before))
        ∙ (ap (from_place target) (append_assoc (repeated turns body) after more)
        ∙ (all_left_out turns target body (after ++ more) (λ more2. ih (at + 1) next2 (next ∷ rest) (omega arith) before is more2)
        ∙ ih (next2 + 1) next rest (omega (arith, ahead)) behind is_behind more)))
    go (by_word word is lines) ih =
        let c = closes (length words) words (at + 1) next rest (omega arith) is in
        lines_are _ lines
        (left_out target (line_of at word) ((from_word words (at + 1)).lines ++ more) (let b = c.behind in omega (arith, b, behind))
        ∙ ih (at + 1) next rest (omega arith) behind is more)

-- a target in the same loops, further on, is found
found : (fuel : ℕ) (words : List Word) → IsNested words → (at target : ℕ) → target ≤ at + fuel → at ≤ target → target < length words → loops_at words at ≡ loops_at words target → from_place target (from_word words at).lines ≡ (from_word words target).lines
found zero words nested at target few before there e = found_here words at target (omega (arith, few, before)) there
found (suc fuel) words nested at target few before there e =
    elim (same_or_not at target before) [
      | inl same ↦ found_here words at target same there
      | inr less ↦ go less (way_at words nested at (omega (arith, less, there))) (λ at2 lt le is. found fuel words nested at2 target (omega (arith, few, lt)) le there (is ∙ e))
    ]
  where
    go : at < target → Way words at (loops_at words at) → ((at2 : ℕ) → at < at2 → at2 ≤ target → loops_at words at2 ≡ loops_at words at → from_place target (from_word words at2).lines ≡ (from_word words target).lines) → from_place target (from_word words at).lines ≡ (from_word words target).lines
    go less (by_next rest is lines) ih =
        let c = closes (length words) words target at rest (omega arith) (sym e ∙ is) in
        let b = c.behind in
        absurd (omega (arith, b, less))
    go less (by_loop turns next ahead is is_behind lines) ih =
        elim (two_ways target next) [
          | inl le ↦ (
              let more = deeper target words nested (at + 1) target next (loops_at words at) (omega arith) (omega (arith, less)) there le is in
              let same : length (loops_at words at) ≡ length (loops_at words target) = ap (length {A = ℕ}) e in
              absurd (omega (arith, more, same)))
          | inr lt ↦ (
              ap (from_place target) lines
              ∙ (left_out target (line_of at (Loop turns)) (repeated turns (from_word words (at + 1)).lines ++ (from_word words (next + 1)).lines) less
              ∙ (all_left_out turns target (from_word words (at + 1)).lines (from_word words (next + 1)).lines (skipped (length words) words nested (at + 1) target next (loops_at words at) (omega arith) (loop_inside words (at + 1) next (loops_at words at) is) lt is)
              ∙ ih (next + 1) (omega (arith, ahead)) (omega (arith, lt)) is_behind)))
        ]
    go less (by_word word is lines) ih =
        ap (from_place target) lines ∙ (left_out target (line_of at word) (from_word words (at + 1)).lines less ∙ ih (at + 1) (omega arith) (omega (arith, less)) is)

-- where a branch leads to: lines in the same turn of the same loops
pub record Leads (words : List Word) (at target : ℕ) : Type 0 where
  pub lines : from_place target (from_word words (at + 1)).lines ≡ (from_word words target).lines
  pub loops : loops_at words (at + 1) ≡ loops_at words target

pub leads : (words : List Word) → IsNested words → (at target : ℕ) → LeadsForward words at target → Leads words at target
leads words nested at target h =
    let same = same_loops words (at + 1) target h.same in
    let f = h.forward in
    record {
      lines = found target words nested (at + 1) target (omega arith) (omega (arith, f)) h.there same;
      loops = same;
    }

-- a branch that is taken leaves the lines from its target on, and what follows
pub led_on : (words : List Word) → IsNested words → (at target : ℕ) (more : List Line) → LeadsForward words at target → from_place target ((from_word words (at + 1)).lines ++ more) ≡ (from_word words target).lines ++ more
led_on words nested at target more h =
    let some = some_line words target h.there in
    let l = leads words nested at target h in
    from_place_on target (from_word words (at + 1)).lines some.0 some.1 more (l.lines ∙ some.2) ∙ ap (λ (x : List Line). x ++ more) (sym some.2)
