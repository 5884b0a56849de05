-- The words of what has been read, one after another.
use Rattle.std.proofs.Common.{◌≡◌, ℕ, zero, suc, ◌+◌, ◌<◌, List, [], ◌∷◌, ◌++◌, map, length, drop, get_or, Option, Some, None, Result, Ok, Err, refl, sym, ap, ◌∙◌, append_assoc, arith}
use Rattle.std.specs.Prelude.{ok_or}
use Rattle.std.specs.List.{AllByRecursion}
use Rattle.std.proofs.lemmas.List.{append-nil}
use Rattle.micro_word.specs.declared.word.Word.{Word}
use Rattle.micro_asm.specs.declared.refusal.AsmRefusal.{AsmRefusal}
use Rattle.micro_asm.specs.declared.refusal.AsmRefusal.TheVariants.{Fault}
use Rattle.micro_asm.specs.declared.refusal.AsmFault.TheVariants.{NoSuchLabel}
use Rattle.micro_asm.specs.Line.{◌>>=◌, Entry}
use Rattle.micro_asm.specs.Reading.{led, words_of}
use Rattle.micro_asm.specs.declared.survey.Pending.{Pending}
use Rattle.micro_asm.specs.Fits.{PairFits}
use Rattle.micro_asm.specs.Kept.{pair_of}

-- the words before, and those that are still to come
abbrev pub with_words : List Word → Result (List Word) AsmRefusal → Result (List Word) AsmRefusal
with_words front read = read >>= λ words. Ok (front ++ words)

pub record IsSoFar (n : ℕ) (labels : List ℕ → Option ℕ) (rest whole : List (ℕ × Entry)) (front : List Word) : Type 0 where
  pub so_far : with_words front (words_of n labels rest) ≡ words_of n labels whole

no_front : (read : Result (List Word) AsmRefusal) → with_words [] read ≡ read
no_front (Ok words) = refl
no_front (Err e) = refl

regroup : (front : List Word) (word : Word) (read : Result (List Word) AsmRefusal) → with_words front (read >>= λ words. Ok (word ∷ words)) ≡ with_words (front ++ word ∷ []) read
regroup front word (Ok words) = ap (λ (xs : List Word). Ok xs) (sym (append_assoc front (word ∷ []) words))
regroup front word (Err e) = refl

pub starts : (n : ℕ) (labels : List ℕ → Option ℕ) (whole : List (ℕ × Entry)) → IsSoFar n labels whole whole []
starts n labels whole = record { so_far = no_front (words_of n labels whole) }

pub goes_on : (n : ℕ) (labels : List ℕ → Option ℕ) (rest after whole : List (ℕ × Entry)) (front : List Word) (e : ℕ × Entry) (word : Word) → rest ≡ e ∷ after → led n labels e.1 ≡ Some word → IsSoFar n labels rest whole front → IsSoFar n labels after whole (front ++ word ∷ [])
unfolding words_of
goes_on n labels rest after whole front e word next is before =
    let step : words_of n labels rest ≡ (words_of n labels after >>= λ words. Ok (word ∷ words)) = ap (words_of n labels) next ∙ ap (λ (o : Option Word). ok_or o (Fault NoSuchLabel e.0) >>= λ w. words_of n labels after >>= λ words. Ok (w ∷ words)) is in
    record { so_far = sym (ap (with_words front) step ∙ regroup front word (words_of n labels after)) ∙ before.so_far }

pub fails : (n : ℕ) (labels : List ℕ → Option ℕ) (rest after whole : List (ℕ × Entry)) (front : List Word) (e : ℕ × Entry) → rest ≡ e ∷ after → led n labels e.1 ≡ None → IsSoFar n labels rest whole front → words_of n labels whole ≡ Err (Fault NoSuchLabel e.0)
unfolding words_of
fails n labels rest after whole front e next is before =
    let step : words_of n labels rest ≡ Err (Fault NoSuchLabel e.0) = ap (words_of n labels) next ∙ ap (λ (o : Option Word). ok_or o (Fault NoSuchLabel e.0) >>= λ w. words_of n labels after >>= λ words. Ok (w ∷ words)) is in
    sym before.so_far ∙ ap (with_words front) step

pub is_done : (n : ℕ) (labels : List ℕ → Option ℕ) (rest whole : List (ℕ × Entry)) (front : List Word) → rest ≡ [] → IsSoFar n labels rest whole front → words_of n labels whole ≡ Ok front
unfolding words_of
is_done n labels rest whole front none before =
    let empty : words_of n labels rest ≡ Ok [] = ap (words_of n labels) none in
    sym before.so_far ∙ ap (with_words front) empty ∙ ap (λ (xs : List Word). Ok xs) (append-nil front)

-- ---- the words in memory

pub next_pair : (items : List Pending) (i : ℕ) (d : Pending) → i < length items → drop i (map pair_of items) ≡ pair_of (get_or items i d) ∷ drop (i + 1) (map pair_of items)
next_pair [] i d low = absurd (omega arith)
next_pair (x ∷ items) zero d low = refl
next_pair (x ∷ items) (suc i) d low =
    let e : suc (i + 1) ≡ suc i + 1 = omega arith in
    next_pair items i d (omega arith) ∙ ap (λ (n : ℕ). pair_of (get_or items i d) ∷ drop n (map pair_of (x ∷ items))) e

pub pair_fits : (items : List Pending) (i : ℕ) (d : Pending) → i < length items → AllByRecursion PairFits (map pair_of items) → PairFits (pair_of (get_or items i d))
pair_fits [] i d low fits = absurd (omega arith)
pair_fits (x ∷ items) zero d low fits = fits.0
pair_fits (x ∷ items) (suc i) d low fits = pair_fits items i d (omega arith) fits.1

pub fits_push : (P : Word → Type 0) (front : List Word) (word : Word) → AllByRecursion P front → P word → AllByRecursion P (front ++ word ∷ [])
fits_push P [] word fits one = (one, tt)
fits_push P (w ∷ front) word fits one = (fits.0, fits_push P front word fits.1 one)
