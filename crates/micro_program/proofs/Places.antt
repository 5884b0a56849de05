-- Texts without loops and branches have the shape that places ask for.
use Rattle.std.proofs.Common.{◌≡◌, ℕ, zero, suc, ◌+◌, true, List, [], ◌∷◌, Some, refl, ap, ◌∙◌, subst, arith, length, drop, ◌≤◌}
use Rattle.std.specs.List.{slice_get}
use Rattle.std.proofs.lemmas.Bool.{and_parts}
use Rattle.micro_word.specs.declared.word.Word.{Word}
use Rattle.micro_word.specs.declared.word.Word.TheVariants.{BranchOnStatus, Loop, Next, Jump}
use Rattle.micro_program.specs.Lines.{Line, Unrolling, word_before, unrolling, leads_on, all_lead_on}
use Rattle.micro_program.specs.Places.{from_word, FitsAt, IsShaped}

outer_before : (line : Line) (u : Unrolling) (word : Word) → leads_on word ≡ true → (word_before line u word).outer ≡ u.outer
outer_before line u (BranchOnStatus mask target) h = cc
outer_before line u (Loop turns) h = cc
outer_before line u Next h = cc
outer_before line u (Jump target) h = cc
outer_before line u _ h = refl

no_outer : (words : List Word) (at : ℕ) → all_lead_on words ≡ true → (unrolling words at).outer ≡ []
no_outer [] at h = refl
no_outer (word ∷ words) at h =
    let parts = and_parts (leads_on word) (all_lead_on words) h in
    outer_before (record { at = at; word = word }) (unrolling words (at + 1)) word parts.0 ∙ no_outer words (at + 1) parts.1

leading_drop : (words : List Word) (at : ℕ) → all_lead_on words ≡ true → all_lead_on (drop at words) ≡ true
leading_drop words zero h = h
leading_drop [] (suc at) h = refl
leading_drop (word ∷ words) (suc at) h = leading_drop words at (and_parts (leads_on word) (all_lead_on words) h).1

shallow : (words : List Word) (at : ℕ) → all_lead_on words ≡ true → length (from_word words at).outer ≤ 4
shallow words at h =
    let none : length (from_word words at).outer ≡ 0 = ap (length {A = List Line}) (no_outer (drop at words) at (leading_drop words at h)) in
    omega (arith, none)

word_leads : (words : List Word) (at : ℕ) (word : Word) → all_lead_on words ≡ true → slice_get words at ≡ Some word → leads_on word ≡ true
word_leads [] at word h e = absurd cc
word_leads (first ∷ words) zero word h e =
    let same : first ≡ word = cc in
    subst (λ (w : Word). leads_on w ≡ true) same (and_parts (leads_on first) (all_lead_on words) h).0
word_leads (first ∷ words) (suc at) word h e = word_leads words at word (and_parts (leads_on first) (all_lead_on words) h).1 e

fits_leading : (words : List Word) (at : ℕ) (word : Word) → leads_on word ≡ true → FitsAt words at word
fits_leading words at (BranchOnStatus mask target) h = absurd cc
fits_leading words at (Loop turns) h = absurd cc
fits_leading words at (Jump target) h = absurd cc
fits_leading words at _ h = tt

pub leading_is_shaped : (words : List Word) → all_lead_on words ≡ true → IsShaped words
leading_is_shaped words h = record { paired = no_outer words 0 h; depth = λ at. shallow words at h; fits = λ at word e. fits_leading words at word (word_leads words at word h e) }
