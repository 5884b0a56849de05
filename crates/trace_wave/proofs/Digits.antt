-- The digits of a number that is counted up.
use Rattle.std.proofs.Common.{◌≡◌, ℕ, zero, suc, ◌+◌, ◌-◌, ◌*◌, ◌/◌, ◌%◌, ◌^◌, ◌≤◌, ◌<◌, List, [], ◌∷◌, ◌++◌, length, take, refl, sym, ap, ◌∙◌, append_assoc, arith, slice_set, slice_index_or, Bool, cond, ◌==◌}
use Rattle.std.specs.Fmt.{decimal}
use Rattle.std.proofs.lemmas.Fmt.{decimal_digit, decimal_step}
use Rattle.std.proofs.lemmas.Bool.{false_from_ne_true, eqb-true}
use Rattle.std.proofs.lemmas.List.{take_more, take_more_set, length-set}
use borrow.Rule.Slice.PartMut.{put_mid}
use Rattle.std.proofs.lemmas.Slice.{take-put_mid}
use Rattle.trace_wave.specs.Changes.{time_line}
use Rattle.trace_wave.specs.Counting.{digits_in_front, IsCounted}

quotient : (n d : ℕ) → d < 10 → (10 * n + d) / 10 ≡ n
quotient n d h = omega (arith, h)

remainder : (n d : ℕ) → d < 10 → (10 * n + d) % 10 ≡ d
remainder n d h = omega (arith, h)

in_front : (n : ℕ) → 1 ≤ n → digits_in_front n ≡ decimal n
in_front n some = ap (λ (b : Bool). cond b [] (decimal n)) (false_from_ne_true (n == 0) (λ h. not_none n some (eqb-true n 0 h)))
  where
    not_none : (k : ℕ) → 1 ≤ k → k ≡ 0 → ⊥
    not_none k h e = omega (arith, h, e)

-- the digits of ten times a number and one more digit
digits_told : (n d : ℕ) → d < 10 → n ≤ 2 ^ 60 → decimal (10 * n + d) ≡ digits_in_front n ++ ((48 + d) ∷ [])
digits_told zero d h fits = ap (λ m. decimal m) (nothing_in_front d) ∙ decimal_digit d h
  where
    nothing_in_front : (k : ℕ) → 10 * 0 + k ≡ k
    nothing_in_front k = omega arith
digits_told (suc n) d h fits =
    decimal_step (10 * suc n + d) (omega arith) (omega (arith, h, fits))
    ∙ ap (λ m. decimal m ++ ((48 + (10 * suc n + d) % 10) ∷ [])) (quotient (suc n) d h)
    ∙ ap (λ m. decimal (suc n) ++ ((48 + m) ∷ [])) (remainder (suc n) d h)
    ∙ ap (λ xs. xs ++ ((48 + d) ∷ [])) (sym (in_front (suc n) (omega arith)))

-- the line of a time, by the digits of the number of items
pub time_told : (n d : ℕ) → d < 10 → n ≤ 2 ^ 60 → time_line (10 * n + d) ≡ (35 ∷ digits_in_front n) ++ ((48 + d) ∷ 10 ∷ [])
time_told n d h fits = ap (λ xs. 35 ∷ (xs ++ (10 ∷ []))) (digits_told n d h fits) ∙ append_assoc (35 ∷ digits_in_front n) ((48 + d) ∷ []) (10 ∷ [])

-- a number's digits, the last one by itself
split : (n : ℕ) → 1 ≤ n → n ≤ 2 ^ 60 + 1 → decimal n ≡ digits_in_front (n / 10) ++ ((48 + n % 10) ∷ [])
split n some fits =
    ap (λ m. decimal m) (whole n) ∙ digits_told (n / 10) (n % 10) (below n) (omega (arith, fits))
  where
    whole : (m : ℕ) → m ≡ 10 * (m / 10) + m % 10
    whole m = omega arith

    below : (m : ℕ) → m % 10 < 10
    below m = omega arith

last_same : (xs ys : List ℕ) (a b : ℕ) → xs ++ a ∷ [] ≡ ys ++ b ∷ [] → (xs ≡ ys) × (a ≡ b)
last_same [] [] a b e = (refl, cc)
last_same [] (y ∷ []) a b e = cc
last_same [] (y ∷ z ∷ ys) a b e = cc
last_same (x ∷ []) [] a b e = cc
last_same (x ∷ z ∷ xs) [] a b e = cc
last_same (x ∷ xs) (y ∷ ys) a b e =
    let rest = last_same xs ys a b cc in
    let first : x ≡ y = cc in
    (ap (λ z. z ∷ xs) first ∙ ap (λ zs. y ∷ zs) rest.0, rest.1)

-- the last digit is one more
counted_at : (number k last : ℕ) (text : List ℕ) → number ≤ 2 ^ 60 → take k text ++ last ∷ [] ≡ 35 ∷ digits_in_front number → 48 ≤ last → last < 57
    → take k text ++ (last + 1) ∷ [] ≡ 35 ∷ digits_in_front (number + 1)
counted_at zero k last text fits is low high =
    let same = last_same (take k text) [] last 35 is in
    absurd (not_low last same.1 low)
  where
    not_low : (a : ℕ) → a ≡ 35 → 48 ≤ a → ⊥
    not_low a e h = omega (arith, e, h)
counted_at (suc m) k last text fits is low high =
    let n = suc m in
    let same = last_same (take k text) (35 ∷ digits_in_front (n / 10)) last (48 + n % 10) (is ∙ ap (λ xs. 35 ∷ xs) (in_front n (omega arith) ∙ split n (omega arith) (omega (arith, fits)))) in
    let ones : n % 10 < 9 = omega (arith, same.1, high) in
    ap (λ xs. xs ++ (last + 1) ∷ []) same.0
    ∙ ap (λ b. (35 ∷ digits_in_front (n / 10)) ++ b ∷ []) (ap (λ b. b + 1) same.1 ∙ one_more n ones)
    ∙ ap (λ q. (35 ∷ digits_in_front q) ++ (48 + (n + 1) % 10) ∷ []) (same_tens n ones)
    ∙ ap (λ xs. 35 ∷ xs) (sym (split (n + 1) (omega arith) (omega (arith, fits))) ∙ sym (in_front (n + 1) (omega arith)))
  where
    one_more : (a : ℕ) → a % 10 < 9 → 48 + a % 10 + 1 ≡ 48 + (a + 1) % 10
    one_more a h = omega (arith, h)

    same_tens : (a : ℕ) → a % 10 < 9 → a / 10 ≡ (a + 1) / 10
    same_tens a h = omega (arith, h)

pub counted_on : (number len : ℕ) (text : List ℕ) → IsCounted number text len → length text ≡ 24 → 48 ≤ slice_index_or text (len - 1) 0 → slice_index_or text (len - 1) 0 < 57
    → take len (slice_set text (len - 1) (slice_index_or text (len - 1) 0 + 1)) ≡ 35 ∷ digits_in_front (number + 1)
counted_on number len text counted whole low high =
    let k = len - 1 in
    let there : k < length text = omega (arith, whole, counted.1, counted.2) in
    let back : k + 1 ≡ len = omega (arith, counted.1) in
    ap (λ j. take j (slice_set text k (slice_index_or text k 0 + 1))) (sym back)
    ∙ take_more_set text k (slice_index_or text k 0 + 1) there
    ∙ counted_at number k (slice_index_or text k 0) text counted.0 (sym (take_more text k 0 there) ∙ ap (λ j. take j text) back ∙ counted.3) low high

-- a number's text is written
pub number_written : (text digits : List ℕ) (number : ℕ) → length text ≡ 24 → digits ≡ decimal number
    → take (length digits + 1) (put_mid 1 (length digits + 1 - 1) (slice_set text 0 35) digits) ≡ 35 ∷ decimal number
number_written text digits number whole is =
    take-put_mid 1 (length digits + 1 - 1) (slice_set text 0 35) digits (length digits + 1) (omega arith) (omega (arith, length-set text 0 35, whole))
    ∙ ap (λ xs. xs ++ digits) (take_more_set text 0 35 (omega (arith, whole)))
    ∙ ap (λ xs. 35 ∷ xs) is
