-- Cutting a text at the first byte of a kind, and its fields one after another.
use Rattle.std.proofs.Common.{◌≡◌, ℕ, ◌+◌, ◌<◌, Bool, true, false, eqb, List, [], ◌∷◌, length, take, drop, get_or, Some, None, refl, ap, sym, ◌∙◌, arith}
use Rattle.std.specs.List.{position_or_len, before_first, slice_split, filter}
use Rattle.std.proofs.Math.Seq.{take-length}
use Rattle.std.proofs.lemmas.List.Sums.{position_or_len_is}
use Rattle.std.proofs.lemmas.List.Splits.{slice_split_first, slice_split_none}
use Rattle.std.proofs.lemmas.List.Elements.{All-from_get_or}
use Rattle.std.proofs.lemmas.Bool.{false_from_ne_true, eqb-true}
use Rattle.memchr.specs.Find.{IsFirstByte}
use Rattle.micro_asm.specs.Line.{is_blank, is_some_field, fields}

fails_before : (test : ℕ → Bool) (hay : List ℕ) (k : ℕ) → IsFirstByte test hay (Some k) → (i : ℕ) → i < k → test (get_or hay i 0) ≡ false
fails_before test hay k h i low = false_from_ne_true (test (get_or hay i 0)) (λ e. h.0.before i (omega arith) low e)

pub first_place : (test : ℕ → Bool) (hay : List ℕ) (k : ℕ) → IsFirstByte test hay (Some k) → (k < length hay) × (position_or_len test hay ≡ k)
first_place test hay k h =
    let low : k < length hay = h.0.high in
    (low, position_or_len_is test hay k 0 (omega arith) (fails_before test hay k h) (λ _. h.1))

pub cut_some : (test : ℕ → Bool) (hay : List ℕ) (k : ℕ) → IsFirstByte test hay (Some k) → slice_split test hay ≡ take k hay ∷ slice_split test (drop (k + 1) hay)
cut_some test hay k h =
    let place = first_place test hay k h in
    let low : position_or_len test hay < length hay = omega (arith, place.0, place.1) in
    slice_split_first test hay 0 low ∙ ap (λ i. take i hay ∷ slice_split test (drop (i + 1) hay)) place.1

pub cut_none : (test : ℕ → Bool) (hay : List ℕ) → IsFirstByte test hay None → slice_split test hay ≡ hay ∷ []
cut_none test hay h =
    slice_split_none test hay (All-from_get_or (λ (b : ℕ). test b ≡ false) hay 0 (λ i low. false_from_ne_true (test (get_or hay i 0)) (λ e. h i (omega arith) low e)))

pub before_some : (test : ℕ → Bool) (hay : List ℕ) (k : ℕ) → IsFirstByte test hay (Some k) → take k hay ≡ before_first test hay
before_some test hay k h = ap (λ i. take i hay) (sym (first_place test hay k h).1)

pub before_none : (test : ℕ → Bool) (hay : List ℕ) → IsFirstByte test hay None → hay ≡ before_first test hay
before_none test hay h =
    let none : position_or_len test hay ≡ length hay = position_or_len_is test hay (length hay) 0 (omega arith) (λ i low. false_from_ne_true (test (get_or hay i 0)) (λ e. h i (omega arith) low e)) (λ no. absurd (omega arith)) in
    sym (take-length hay) ∙ ap (λ i. take i hay) (sym none)

-- ---- fields

-- a field that isn't empty is the first, and one that is empty is none
pub field_first : (text front after : List ℕ) → slice_split is_blank text ≡ front ∷ slice_split is_blank after → eqb (length front) 0 ≡ false → fields text ≡ front ∷ fields after
unfolding fields
field_first text [] after e some = absurd cc
field_first text (b ∷ front) after e some = ap (filter is_some_field) e

pub field_empty : (text front after : List ℕ) → slice_split is_blank text ≡ front ∷ slice_split is_blank after → eqb (length front) 0 ≡ true → fields text ≡ fields after
unfolding fields
field_empty text [] after e none = ap (filter is_some_field) e
field_empty text (b ∷ front) after e none = absurd (omega (arith, eqb-true (length (b ∷ front)) 0 none))

pub field_last : (text : List ℕ) → slice_split is_blank text ≡ text ∷ [] → eqb (length text) 0 ≡ false → fields text ≡ text ∷ fields []
unfolding fields
field_last [] e some = absurd cc
field_last (b ∷ text) e some = ap (filter is_some_field) e

pub field_none : (text : List ℕ) → eqb (length text) 0 ≡ true → fields text ≡ []
unfolding fields
field_none [] e = refl
field_none (b ∷ text) e = absurd (omega (arith, eqb-true (length (b ∷ text)) 0 e))
