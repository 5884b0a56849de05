use Rattle.std.proofs.Common.{◌≡◌, ◌+◌, ◌++◌, length}
use Rattle.trace_faults.specs.Middle.{verdicts_from}
use Rattle.trace_ops.specs.Listing.{ops_from, ops_of, marks_from, marks_of, verdicts_as}
use Rattle.trace_ops.proofs.listing.find_operations.Given as goal

abbrev pub invariant-rest : goal.invariant-rest
invariant-rest g l =
    (ops_from l.readies l.one_lun (record { state = l.judge.state; known = l.judge.known }) l.number l.rest (record { places = l.places; ops = l.operations.items })
    ≡ ops_of l.readies l.fn.beginning l.geometry l.targets l.items)
    × (l.marks.items ++ marks_from l.readies l.one_lun (record { state = l.judge.state; known = l.judge.known }) l.number l.rest (record { places = l.places; ops = l.operations.items })
    ≡ marks_of l.readies l.fn.beginning l.geometry l.targets l.items)
    × (l.number + length l.rest ≡ length l.items)
    × (l.verdicts.items ++ verdicts_from l.readies (record { state = l.judge.state; known = l.judge.known }) l.rest ≡ verdicts_as l.readies l.fn.beginning l.geometry l.targets l.items)

abbrev pub decreases-rest : goal.decreases-rest
decreases-rest g l = length l.rest
