use Rattle.std.proofs.Common.{◌≡◌, ◌+◌, ◌++◌, length}
use Rattle.trace_faults.specs.Faults.{not_shown_of, not_shown_from}
use Rattle.trace_faults.proofs.finding.find_not_shown.Given as goal

abbrev pub invariant-rest : goal.invariant-rest
invariant-rest g l = (l.told.items ++ not_shown_from l.readies l.state l.place l.rest ≡ not_shown_of l.readies l.geometry l.targets l.items) × (l.place + length l.rest ≡ length l.items)

abbrev pub decreases-rest : goal.decreases-rest
decreases-rest g l = length l.rest
