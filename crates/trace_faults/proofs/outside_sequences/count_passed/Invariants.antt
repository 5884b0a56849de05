use Rattle.std.proofs.Common.{◌≡◌, ◌+◌, ◌≤◌, length}
use Rattle.trace_faults.specs.OutsideSequences.{passed_after}
use Rattle.trace_faults.proofs.outside_sequences.count_passed.Given as goal

abbrev pub invariant-rest : goal.invariant-rest
invariant-rest l = (l.count + passed_after l.target l.rest ≡ passed_after l.target l.marks) × (l.count + length l.rest ≤ length l.marks)

abbrev pub decreases-rest : goal.decreases-rest
decreases-rest l = length l.rest
