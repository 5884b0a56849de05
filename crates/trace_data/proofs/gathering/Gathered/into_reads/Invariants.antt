use Rattle.std.proofs.Common.{◌≡◌, ◌++◌}
use Rattle.trace_data.specs.Reads.{left_alone}
use Rattle.trace_data.proofs.gathering.Gathered.into_reads.Given as goal

abbrev pub invariant-loop-read : goal.invariant-loop-read
invariant-loop-read l = l.reads.items ++ left_alone l.works-inside.ended.items l.read-iterator.rest.items ≡ left_alone l.works-inside.ended.items l.initial.read-iterator.rest.items
