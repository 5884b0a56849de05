use Rattle.std.proofs.Common.{◌≡◌, ◌+◌, ◌++◌, length}
use Rattle.trace_faults.specs.Faults.{faults_of, faults_from}
use Rattle.trace_faults.specs.OutsideSequences.{marks_of, marks_from}
use Rattle.trace_faults.proofs.judging.judge_items.Given as goal

abbrev pub invariant-rest : goal.invariant-rest
invariant-rest g l =
    (l.judged.faults.items ++ faults_from l.readies l.state l.place l.rest ≡ faults_of l.readies l.geometry l.targets l.items)
    × (l.judged.marks.items ++ marks_from l.readies l.state l.rest ≡ marks_of l.readies l.geometry l.targets l.items)
    × (l.place + length l.rest ≡ length l.items)

abbrev pub decreases-rest : goal.decreases-rest
decreases-rest g l = length l.rest
