-- What single words say: names, numbers, codes, bits and timescales.
use Rattle.std.specs.Prelude.{ℕ, ◌+◌, ◌-◌, ◌*◌, ◌==◌, ◌&&◌, Bool, true, false, nat_le, nat_lt, if◌then◌else◌, List, [], ◌∷◌, Option, Some, None, Result, Ok, Err}
use Rattle.std.specs.Str.{bytes_eq}
use Rattle.vcd_text.specs.declared.tokens.Level.{Level}
use Rattle.vcd_text.specs.declared.tokens.Level.TheVariants.{Low, High, Unknown}
use Rattle.vcd_text.specs.declared.tokens.Scale.{Scale}
use Rattle.vcd_text.specs.declared.tokens.Scale.TheVariants as scale

infixl 10 ◌>>=◌
abbrev pub ◌>>=◌ : {A B E : Type 0} → Result A E → (A → Result B E) → Result B E
(Ok x) >>= f = f x
(Err e) >>= f = Err e

abbrev pub and_then : {A B : Type 0} → Option A → (A → Option B) → Option B
and_then (Some x) f = f x
and_then None f = None

abbrev pub is_named : List ℕ → List ℕ → Bool
is_named word text = bytes_eq word text

abbrev pub is_digit : ℕ → Bool
is_digit b = nat_le 48 b && nat_le b 57

-- a decimal number whose first digits have this value: 19 digits at most, zeros in front aside
abbrev pub decimal_from : ℕ → List ℕ → Option ℕ
decimal_from n [] = Some n
decimal_from n (b ∷ digits) = if is_digit b && nat_lt n 1000000000000000000 then decimal_from (10 * n + (b - 48)) digits else None

abbrev pub decimal : List ℕ → Option ℕ
decimal [] = None
decimal (b ∷ digits) = decimal_from 0 (b ∷ digits)

-- a code as a number: its characters, of which there are eight at most, one after the other
abbrev pub code_from : ℕ → List ℕ → Option ℕ
code_from n [] = Some n
code_from n (b ∷ word) = if nat_lt n 72057594037927936 then code_from (256 * n + b) word else None

abbrev pub code_of : List ℕ → Option ℕ
code_of [] = None
code_of (b ∷ word) = code_from 0 (b ∷ word)

-- the level of a bit: 0, 1, x or z, in either case
abbrev pub level_of : ℕ → Option Level
level_of b =
    if b == 48 then Some Low else (if b == 49 then Some High else (
    if b == 120 then Some Unknown else (if b == 88 then Some Unknown else (if b == 122 then Some Unknown else (if b == 90 then Some Unknown else None)))))

abbrev pub is_known : Option Level → Bool
is_known None = false
is_known (Some level) = true

-- the bits of a vector
abbrev pub are_bits : List ℕ → Bool
are_bits [] = true
are_bits (b ∷ bits) = is_known (level_of b) && are_bits bits

-- s, or one of m, u, n, p and f before it
abbrev pub unit_after : ℕ → Scale
unit_after b =
    if b == 115 then scale.Whole else (if b == 109 then scale.Prefix else (if b == 117 then scale.Prefix else (
    if b == 110 then scale.Prefix else (if b == 112 then scale.Prefix else (if b == 102 then scale.Prefix else scale.Wrong)))))

-- how far a timescale is read: 1, 10 or 100 of s, ms, us, ns, ps or fs
abbrev pub scale_after : Scale → ℕ → Scale
scale_after scale.Start b = if b == 49 then scale.One else scale.Wrong
scale_after scale.One b = if b == 48 then scale.Ten else unit_after b
scale_after scale.Ten b = if b == 48 then scale.Hundred else unit_after b
scale_after scale.Hundred b = unit_after b
scale_after scale.Prefix b = if b == 115 then scale.Whole else scale.Wrong
scale_after scale.Whole b = scale.Wrong
scale_after scale.Wrong b = scale.Wrong

abbrev pub scale_from : Scale → List ℕ → Scale
scale_from s [] = s
scale_from s (b ∷ word) = scale_from (scale_after s b) word

abbrev pub is_whole : Scale → Bool
is_whole scale.Start = false
is_whole scale.One = false
is_whole scale.Ten = false
is_whole scale.Hundred = false
is_whole scale.Prefix = false
is_whole scale.Whole = true
is_whole scale.Wrong = false
