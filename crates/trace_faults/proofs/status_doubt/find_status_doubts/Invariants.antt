use Rattle.std.proofs.Common.{◌≡◌, ◌+◌, ◌++◌, length}
use Rattle.trace_faults.specs.StatusBytes.{doubts_of, doubts_from}
use Rattle.trace_faults.proofs.status_doubt.find_status_doubts.Given as goal

abbrev pub invariant-rest : goal.invariant-rest
invariant-rest g l = (l.doubts.items ++ doubts_from l.readies l.state l.place l.rest ≡ doubts_of l.readies l.geometry l.targets l.items) × (l.place + length l.rest ≡ length l.items)

abbrev pub decreases-rest : goal.decreases-rest
decreases-rest g l = length l.rest
