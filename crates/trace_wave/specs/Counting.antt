-- The text of a number that is counted up.
use Rattle.std.specs.Prelude.{◌≡◌, ℕ, ◌==◌, ◌≤◌, ◌^◌, if◌then◌else◌, List, [], ◌∷◌, take}
use Rattle.std.specs.Fmt.{decimal}

-- the digits of a number as they stand in front of one more: of 0 none
abbrev pub digits_in_front : ℕ → List ℕ
digits_in_front n = if n == 0 then [] else decimal n

-- a text that begins with # and the digits of a number, so many bytes in all
abbrev pub IsCounted : (number : ℕ) → (text : List ℕ) → (len : ℕ) → Type 0
IsCounted number text len = (number ≤ 2 ^ 60) × (1 ≤ len) × (len ≤ 20) × (take len text ≡ 35 ∷ digits_in_front number)
