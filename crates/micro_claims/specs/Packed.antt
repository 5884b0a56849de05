-- A span as it lies in memory: a number that isn't known is 0.
use Rattle.std.specs.Prelude.{◌≡◌, ℕ, Bool, true, false, Option, Some, None, is_some}
use Rattle.std.proofs.Common.{refl, sym}
use Rattle.micro_claims.specs.Spans.{Growth}
pub use Rattle.micro_claims.specs.declared.grows.Grows.{Grows}
pub use Rattle.micro_claims.specs.declared.grows.Grows.TheVariants.{Not, AtLeast, Between}

-- the greatest number, where there is one
abbrev pub bound_of : Bool → ℕ → Option ℕ
bound_of true n = Some n
bound_of false n = None

abbrev pub growth_of : Grows → ℕ → ℕ → Option Growth
growth_of Not lo hi = None
growth_of AtLeast lo hi = Some (record { lo = lo; hi = None })
growth_of Between lo hi = Some (record { lo = lo; hi = Some hi })

abbrev pub IsUnused : Bool → ℕ → Type 0
IsUnused true n = Unit {0}
IsUnused false n = n ≡ 0

abbrev pub AreUnused : Grows → ℕ → ℕ → Type 0
AreUnused Not lo hi = (lo ≡ 0) × (hi ≡ 0)
AreUnused AtLeast lo hi = hi ≡ 0
AreUnused Between lo hi = Unit {0}

-- back: what lies in memory, of each part
abbrev pub or_none : Option ℕ → ℕ
or_none None = 0
or_none (Some n) = n

abbrev pub grows_by : Option Growth → Grows
grows_by None = Not
grows_by (Some g) = by g.hi
  where
    by : Option ℕ → Grows
    by None = AtLeast
    by (Some n) = Between

abbrev pub least_of : Option Growth → ℕ
least_of None = 0
least_of (Some g) = g.lo

abbrev pub most_of : Option Growth → ℕ
most_of None = 0
most_of (Some g) = or_none g.hi

pub bound_back : (b : Bool) (n : ℕ) → IsUnused b n → or_none (bound_of b n) ≡ n
bound_back true n h = refl
bound_back false n h = sym h

pub known_back : (b : Bool) (n : ℕ) → is_some (bound_of b n) ≡ b
known_back true n = refl
known_back false n = refl

pub grows_back : (k : Grows) (lo hi : ℕ) → grows_by (growth_of k lo hi) ≡ k
grows_back Not lo hi = refl
grows_back AtLeast lo hi = refl
grows_back Between lo hi = refl

pub least_back : (k : Grows) (lo hi : ℕ) → AreUnused k lo hi → least_of (growth_of k lo hi) ≡ lo
least_back Not lo hi h = sym h.0
least_back AtLeast lo hi h = refl
least_back Between lo hi h = refl

pub most_back : (k : Grows) (lo hi : ℕ) → AreUnused k lo hi → most_of (growth_of k lo hi) ≡ hi
most_back Not lo hi h = sym h.1
most_back AtLeast lo hi h = sym h
most_back Between lo hi h = refl
