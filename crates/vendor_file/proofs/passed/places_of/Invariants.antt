use Rattle.std.proofs.Common.{◌≡◌, ◌+◌, ◌++◌, length}
use Rattle.vendor_file.specs.Carried.{places_from}
use Rattle.vendor_file.proofs.passed.places_of.Given as goal

abbrev pub invariant-rest : goal.invariant-rest
invariant-rest g l = (l.places.items ++ places_from l.place l.rest ≡ places_from 0 l.parts) × (l.place + length l.rest ≡ length l.parts)

abbrev pub decreases-rest : goal.decreases-rest
decreases-rest g l = length l.rest
