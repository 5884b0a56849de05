-- What is known of the pages that programs may copy.
use Rattle.std.specs.Prelude.{ℕ, ◌+◌, ◌%◌, ◌==◌, Bool, true, false, if◌then◌else◌, Option, Some, None}
use Rattle.micro_claims.specs.Planes.{Planes, no_planes, is_one_plane, either_plane, other_planes}
use Rattle.micro_claims.specs.State.{Drift, Copies}

-- ---- even and odd

-- the index register is at the row itself
abbrev pub no_distance : Drift
no_distance = record { ahead = 0; behind = 0 }

-- the pages of two rows so far from each other are surely both even or both odd, or surely not; where a block has an odd number of pages that
-- is known of no distance but none
abbrev pub parity_of : (pages : ℕ) → Option Drift → Option Bool
parity_of pages None = None
parity_of pages (Some d) = if d.ahead == d.behind then Some true else (if pages % 2 == 0 then Some ((d.ahead + d.behind) % 2 == 0) else None)

-- these planes, where it is even
abbrev pub if_even : Option Bool → Planes → Planes
if_even None p = no_planes
if_even (Some true) p = p
if_even (Some false) p = no_planes

-- these planes, where it is odd
abbrev pub if_odd : Option Bool → Planes → Planes
if_odd None p = no_planes
if_odd (Some true) p = no_planes
if_odd (Some false) p = p

-- ---- what a word leaves

-- behind a move of the index register
abbrev pub copies_moved : Option Bool → Copies → Copies
copies_moved None c = record c { even = no_planes; odd = no_planes }
copies_moved (Some true) c = c
copies_moved (Some false) c = record c { even = c.odd; odd = c.even }

-- behind an 11, which leaves the pages
abbrev pub copies_queued : Copies → Copies
copies_queued c = record c { copying = false; keeps = true }

-- behind the row of an 80, which leaves none
abbrev pub copies_cleared : Copies → Copies
copies_cleared c = record c { even = no_planes; odd = no_planes; holds = false }

-- behind a 35 that leaves no page that was held before it: those of these planes are as far from the index register
abbrev pub first_copies : Option Bool → Planes → Copies
first_copies parity p = record { even = if_even parity p; odd = if_odd parity p; copying = true; keeps = true; holds = true }

-- behind a 35 of one of these planes, beside pages that were held before it
abbrev pub more_copies : Option Bool → Planes → Copies → Copies
more_copies parity p c =
    if is_one_plane p
    then record {
      even = either_plane (if_even parity p) (other_planes p c.even);
      odd = either_plane (if_odd parity p) (other_planes p c.odd);
      copying = true;
      keeps = true;
      holds = true;
    }
    else first_copies None p
