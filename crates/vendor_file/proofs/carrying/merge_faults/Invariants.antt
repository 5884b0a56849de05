use Rattle.std.proofs.Common.{◌≡◌, ◌++◌, length}
use Rattle.vendor_file.specs.Carried.{merged}
use Rattle.vendor_file.proofs.carrying.merge_faults.Given as goal

abbrev pub invariant-rest : goal.invariant-rest
invariant-rest g l = l.all.items ++ merged l.rest l.left ≡ merged l.faults l.broken

abbrev pub decreases-rest : goal.decreases-rest
decreases-rest g l = length l.rest
