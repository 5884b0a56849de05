use Rattle.std.proofs.Common.{◌≡◌, ◌+◌, ◌++◌, length}
use Rattle.vendor_file.specs.Carried.{broken_from}
use Rattle.vendor_file.proofs.passed.broken_of.Given as goal

abbrev pub invariant-rest : goal.invariant-rest
invariant-rest g l = (l.broken.items ++ broken_from l.item l.rest ≡ broken_from 0 l.parts) × (l.item + length l.rest ≡ length l.parts)

abbrev pub decreases-rest : goal.decreases-rest
decreases-rest g l = length l.rest
