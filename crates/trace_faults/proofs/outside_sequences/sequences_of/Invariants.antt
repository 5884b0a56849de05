use Rattle.std.proofs.Common.{◌≡◌, ◌+◌, ◌++◌, length}
use Rattle.trace_faults.specs.OutsideSequences.{sequences_from}
use Rattle.trace_faults.proofs.outside_sequences.sequences_of.Given as goal

abbrev pub invariant-rest : goal.invariant-rest
invariant-rest g l = (l.sequences.items ++ sequences_from l.place l.rest ≡ sequences_from 0 l.marks) × (l.place + length l.rest ≡ length l.marks)

abbrev pub decreases-rest : goal.decreases-rest
decreases-rest g l = length l.rest
