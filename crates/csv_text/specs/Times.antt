-- Numbers of a CSV: the time of a row, and a sample rate.
use Rattle.std.specs.Prelude.{ℕ, ◌+◌, ◌-◌, ◌*◌, ◌/◌, ◌^◌, ◌||◌, nat_le, nat_lt, Bool, true, false, if◌then◌else◌, List, [], ◌∷◌, codes, length, Option, Some, None, ◌==◌}
use Rattle.std.specs.List.{before_first, after_first, position_or_len}
use Rattle.std.specs.Option.{option_map}
use Rattle.std.specs.Str.{bytes_eq}
use Rattle.vcd_text.specs.Tokens.{and_then, is_digit, decimal}
use Rattle.csv_text.specs.declared.times.Moment.{Moment}
use Rattle.csv_text.specs.Fields.{is_either, is_blank, trim}

-- a point (46), or a comma (44), which stands in a field only where something else separates
abbrev pub is_point : ℕ → Bool
is_point b = is_either 46 44 b

abbrev pub has_point : List ℕ → Bool
has_point text = nat_lt (position_or_len is_point text) (length text)

-- e and E stand in front of an exponent
abbrev pub is_exponent : ℕ → Bool
is_exponent b = is_either 101 69 b

abbrev pub has_exponent : List ℕ → Bool
has_exponent text = nat_lt (position_or_len is_exponent text) (length text)

-- a number with the digits behind a point, of which the first counts so much; what is less than one is cut
abbrev pub fraction_from : (so_far weight : ℕ) → List ℕ → Option ℕ
fraction_from so_far weight [] = Some so_far
fraction_from so_far weight (b ∷ digits) = if is_digit b then fraction_from (so_far + weight * (b - 48)) (weight / 10) digits else None

-- whole ones that count `unit` each, and the digits behind their point; what is too large is none
abbrev pub scaled : (unit whole : ℕ) → List ℕ → Option ℕ
scaled unit whole digits = if nat_le (unit * whole) 18446743000000000000 then fraction_from (unit * whole) (unit / 10) digits else None

-- a number with a point or without, whose ones count `unit` each
abbrev pub number_of : (unit : ℕ) → List ℕ → Option ℕ
number_of unit text = and_then (decimal (before_first is_point text)) (λ whole. scaled unit whole (after_first is_point text))

-- picoseconds that 10^-x seconds are
abbrev pub smaller_unit : ℕ → Option ℕ
smaller_unit x = if nat_le x 12 then Some (10 ^ (12 - x)) else None

-- an exponent: a minus (45) and a number of at most 12
abbrev pub unit_of : List ℕ → Option ℕ
unit_of [] = None
unit_of (b ∷ digits) = if b == 45 then and_then (decimal digits) smaller_unit else None

-- seconds with an exponent, as picoseconds
abbrev pub with_exponent : List ℕ → Option ℕ
with_exponent text = and_then (unit_of (after_first is_exponent text)) (λ unit. number_of unit (before_first is_exponent text))

-- a time is in seconds as all of its column are, or because it has a point or an exponent
abbrev pub is_in_seconds : (in_seconds : Bool) → List ℕ → Bool
is_in_seconds in_seconds text = in_seconds || (has_point text || has_exponent text)

-- a time without a sign: seconds, as picoseconds, where it has a point or an exponent or its column is in seconds; else a whole number of a unit of its own
abbrev pub size_of : (in_seconds : Bool) → List ℕ → Option ℕ
size_of in_seconds text =
    if has_exponent text then with_exponent text else (if in_seconds || has_point text then number_of 1000000000000 text else decimal text)

abbrev pub before_origin : ℕ → Moment
before_origin size = record { is_negative = true; size = size }

abbrev pub from_origin : ℕ → Moment
from_origin size = record { is_negative = false; size = size }

-- with a minus in front it is before a trigger
abbrev pub moment_of : (in_seconds : Bool) → List ℕ → Option Moment
moment_of in_seconds [] = None
moment_of in_seconds (b ∷ text) = if b == 45 then option_map before_origin (size_of in_seconds text) else option_map from_origin (size_of in_seconds (b ∷ text))

-- ---- samples

-- how many hertz a unit is, by its name: Hz, kHz, MHz and GHz; none at all is one
abbrev pub hertz_in : List ℕ → Option ℕ
hertz_in unit =
    if bytes_eq unit [] || bytes_eq unit (codes "Hz") then Some 1 else (
    if bytes_eq unit (codes "kHz") then Some 1000 else (
    if bytes_eq unit (codes "MHz") then Some 1000000 else (
    if bytes_eq unit (codes "GHz") then Some 1000000000 else None)))

-- a sample rate: a number and a unit
abbrev pub rate_of : List ℕ → Option ℕ
rate_of text = and_then (hertz_in (trim (after_first is_blank text))) (λ unit. number_of unit (before_first is_blank text))

abbrev pub below_limit : ℕ → Option ℕ
below_limit time = if nat_lt time (2 ^ 64) then Some time else None

-- the time of a sample: its number, or the picoseconds before it where the rate is known
abbrev pub sample_time : (rate count : ℕ) → Option ℕ
sample_time rate count = if rate == 0 then Some count else below_limit (count * 1000000000000 / rate)
