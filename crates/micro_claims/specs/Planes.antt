-- Sets of planes: a plane is in a set where the bit of its number is.
use Rattle.std.specs.Prelude.{ℕ, ◌-◌, ◌^◌, ◌==◌, Bool, not, nat_lt, ◌||◌, if◌then◌else◌, bit_and, bit_or}
pub use Rattle.micro_claims.specs.declared.planes.Planes.{Planes}
use Rattle.micro_claims.specs.Sets.{has}

-- the plane is one of these
abbrev pub has_plane : ℕ → Planes → Bool
has_plane n p = has (2 ^ n) p.0

-- the greatest of these; 0 where none is greater
abbrev pub greatest_plane : Planes → ℕ
greatest_plane p = if has 8 p.0 then 3 else if has 4 p.0 then 2 else if has 2 p.0 then 1 else 0

abbrev pub no_planes : Planes
no_planes = record { 0 = 0 }

-- the plane of this number alone, where a plane may have it
abbrev pub just_plane : ℕ → Planes
just_plane n = if nat_lt n 4 then record { 0 = 2 ^ n } else no_planes

-- the planes of both
abbrev pub either_plane : Planes → Planes → Planes
either_plane p q = record { 0 = bit_or p.0 q.0 }

-- the planes that are in both
abbrev pub common_planes : Planes → Planes → Planes
common_planes p q = record { 0 = bit_and p.0 q.0 }

-- those of the second that aren't in the first
abbrev pub other_planes : Planes → Planes → Planes
other_planes p q = record { 0 = bit_and q.0 (15 - p.0) }

-- it is one plane
abbrev pub is_one_plane : Planes → Bool
is_one_plane p = p.0 == 1 || (p.0 == 2 || (p.0 == 4 || p.0 == 8))

-- the plane of which it is sure that it is meant, where one of these is
abbrev pub sure_plane : Planes → Planes
sure_plane p = if is_one_plane p then p else no_planes

-- each plane of the first is one of the second
abbrev pub are_planes_within : Planes → Planes → Bool
are_planes_within p q = has p.0 q.0

-- some plane is in both
abbrev pub share_a_plane : Planes → Planes → Bool
share_a_plane p q = not (bit_and p.0 q.0 == 0)

-- each of them is one of the first so many
abbrev pub are_below : ℕ → Planes → Bool
are_below count p = nat_lt p.0 (2 ^ count)
