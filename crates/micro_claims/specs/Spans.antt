-- Numbers that are known by their bounds, and that may grow in loops.
use Rattle.std.specs.Prelude.{ℕ, ◌+◌, ◌==◌, Bool, false, nat_le, if◌then◌else◌, Option, Some, None}
pub use Rattle.micro_claims.specs.declared.growth.Growth.{Growth}

-- a number from `lo` on, up to `hi` if there is a bound, and how much it has grown, where it may
pub record Span : Type 0 where
  pub lo : ℕ
  pub hi : Option ℕ
  pub grown : Option Growth

-- bounds are kept up to this number; a higher one is no bound
abbrev pub greatest_bound : ℕ
greatest_bound = 4294967295

abbrev pub kept : ℕ → Option ℕ
kept n = if nat_le n greatest_bound then Some n else None

abbrev pub saturated : ℕ → ℕ
saturated n = if nat_le n greatest_bound then n else greatest_bound

-- an upper bound, moved up
abbrev pub bound_plus : Option ℕ → ℕ → Option ℕ
bound_plus None n = None
bound_plus (Some bound) n = kept (bound + n)

-- a number that is known
abbrev pub exactly : ℕ → Span
exactly n = record { lo = saturated n; hi = kept n; grown = None }

abbrev pub growth_plus : ℕ → ℕ → Option Growth → Option Growth
growth_plus least most None = None
growth_plus least most (Some g) = Some (record { lo = saturated (g.lo + least); hi = bound_plus g.hi most })

-- a number that grew by this much at least, and by that much at most
abbrev pub plus_between : Span → ℕ → ℕ → Span
plus_between s least most = record { lo = saturated (s.lo + least); hi = bound_plus s.hi most; grown = growth_plus least most s.grown }

abbrev pub plus : Span → ℕ → Span
plus s n = plus_between s n n

-- it is surely at most n
abbrev pub is_at_most : Option ℕ → ℕ → Bool
is_at_most None n = false
is_at_most (Some bound) n = nat_le bound n

-- the only number that it may be
abbrev pub only_of : ℕ → Option ℕ → Option ℕ
only_of lo None = None
only_of lo (Some hi) = if lo == hi then Some lo else None

abbrev pub only : Span → Option ℕ
only s = only_of s.lo s.hi

-- a number as it is now: how much it grew is said of the part that it came from, and stays there
abbrev pub copied : Span → Span
copied s = record { lo = s.lo; hi = s.hi; grown = None }
