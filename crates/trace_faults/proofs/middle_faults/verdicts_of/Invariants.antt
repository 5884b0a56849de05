use Rattle.std.proofs.Common.{◌≡◌, ◌++◌, length}
use Rattle.trace_faults.specs.Middle.{verdicts_from, verdicts_of}
use Rattle.trace_faults.proofs.middle_faults.verdicts_of.Given as goal

abbrev pub invariant-rest : goal.invariant-rest
invariant-rest g l = l.verdicts.items ++ verdicts_from l.readies (record { state = l.state; known = l.known }) l.rest ≡ verdicts_of l.readies l.geometry l.targets l.items

abbrev pub decreases-rest : goal.decreases-rest
decreases-rest g l = length l.rest
