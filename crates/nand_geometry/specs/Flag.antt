-- A bit of a field.
use Rattle.std.specs.Prelude.{ℕ, ◌^◌, Bool, if◌then◌else◌}

-- a bit of a field, where it is set
abbrev pub flag : ℕ → Bool → ℕ
flag bit set = if set then 2 ^ bit else 0
