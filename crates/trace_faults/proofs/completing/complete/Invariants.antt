use Rattle.std.proofs.Common.{◌≡◌, ◌++◌, length}
use Rattle.trace_faults.specs.Faults.{completed, completed_from}
use Rattle.trace_faults.proofs.completing.complete.Given as goal

abbrev pub invariant-rest : goal.invariant-rest
invariant-rest g l = l.whole.items ++ completed_from l.state l.rest ≡ completed l.geometry l.targets l.items

abbrev pub decreases-rest : goal.decreases-rest
decreases-rest g l = length l.rest
