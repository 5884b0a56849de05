-- Decimal numbers, as `parse` reads them.
use Rattle.std.proofs.Common.{◌≡◌, ℕ, ◌<◌, ◌≤◌, true, List, length, Result, Ok, Err, refl, arith}
use Rattle.std.specs.Prelude.{IsOk}
use Rattle.std.specs.Result.{MatchResult}
use Rattle.std.specs.Str.{IsUtf8, all_ascii_digits}
use Rattle.std.specs.Str.Parse.{digits_value, ParsesUnsigned}
use Rattle.std.proofs.lemmas.Str.{IsUtf8-from_ascii}
use Rattle.std.proofs.lemmas.Fmt.{IsAscii-from_digits}
use Rattle.std.proofs.lemmas.Str.Parse.{IsNumeralModel, numerals_by_value, tells_all_ascii_digits, parse_gives, digits_value_short}

pub own : IsNumeralModel (λ ds. all_ascii_digits ds ≡ true) (digits_value 10)
own = numerals_by_value _ tells_all_ascii_digits

pub digits_are_text : (bs : List ℕ) → all_ascii_digits bs ≡ true → IsUtf8 bs
digits_are_text bs h = IsUtf8-from_ascii bs (IsAscii-from_digits bs (own.to bs h))

pub is_text : {S E : Type 0} (r : Result S E) (P : S → Type 0) (Q : E → Type 0) (U : Type 0) → MatchResult r P (λ e. (U → ⊥) × Q e) → U → IsOk r
is_text (Ok x) P Q U h u = refl
is_text (Err e) P Q U h u = absurd (h.0 u)

pub short_number : {E : Type 0} (bs : List ℕ) (r : Result ℕ E) → ParsesUnsigned 64 10 bs r → all_ascii_digits bs ≡ true → 0 < length bs → length bs ≤ 10 → r ≡ Ok (digits_value 10 bs)
short_number bs r h digits some short = parse_gives own 64 bs r h digits some (omega (arith, digits_value_short own bs 10 digits short))
