-- Which bits of something a signal is, by the brackets of its name.
use Rattle.std.specs.Prelude.{ℕ, ◌+◌, ◌-◌, ◌*◌, ◌==◌, ◌&&◌, Bool, nat_le, nat_lt, if◌then◌else◌, List, [], ◌∷◌, Option, Some, None}
use Rattle.bus_signals.specs.declared.spot.Spot.{Spot}
use Rattle.bus_signals.specs.declared.spot.Spot.TheVariants.{Bare, First, Second, Bit, Bits, Wrong}

-- numbers in brackets have six digits at most
abbrev pub is_index_digit : ℕ → ℕ → Bool
is_index_digit n b = nat_le 48 b && (nat_le b 57 && nat_lt n 100000)

-- a colon is 58, a closing bracket 93
abbrev pub first_after : ℕ → ℕ → Spot
first_after n b =
    if is_index_digit n b then First (10 * n + (b - 48)) else (if b == 58 then Second n 0 else (if b == 93 then Bit n else Wrong))

abbrev pub second_after : ℕ → ℕ → ℕ → Spot
second_after first n b = if is_index_digit n b then Second first (10 * n + (b - 48)) else (if b == 93 then Bits first n else Wrong)

-- an opening bracket is 91
abbrev pub spot_after : Spot → ℕ → Spot
spot_after Bare b = if b == 91 then First 0 else Bare
spot_after (First n) b = first_after n b
spot_after (Second first n) b = second_after first n b
spot_after (Bit n) b = Wrong
spot_after (Bits first last) b = Wrong
spot_after Wrong b = Wrong

abbrev pub spot_from : Spot → List ℕ → Spot
spot_from s [] = s
spot_from s (b ∷ word) = spot_from (spot_after s b) word

-- a name and its range
abbrev pub spot_of : List ℕ → List ℕ → Spot
spot_of name range = spot_from (spot_from Bare name) range

-- the place from the right of a bit, of those from the first (on the left) to the last
abbrev pub span_place : (bit first last : ℕ) → Option ℕ
span_place bit first last =
    if nat_le last bit && nat_le bit first then Some (bit - last) else (if nat_le first bit && nat_le bit last then Some (last - bit) else None)

-- the place from the right of the bit of this number, in a signal of this width
abbrev pub place_in : Spot → (width bit : ℕ) → Option ℕ
place_in Bare width bit = if nat_lt bit width then Some bit else None
place_in (First n) width bit = None
place_in (Second first n) width bit = None
place_in (Bit n) width bit = if width == 1 && n == bit then Some 0 else None
place_in (Bits first last) width bit = span_place bit first last
place_in Wrong width bit = None
