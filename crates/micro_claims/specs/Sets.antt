-- Sets as the bits of a number.
use Rattle.std.specs.Prelude.{ℕ, ◌==◌, Bool, bit_and}

-- each of these is in the set
abbrev pub has : (these set : ℕ) → Bool
has these set = bit_and set these == these
