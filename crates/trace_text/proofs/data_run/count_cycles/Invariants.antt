use Rattle.std.proofs.Common.{take, length, ◌-◌, ◌≤◌}
use Rattle.trace_text.specs.Checking.{AreCyclesOf}
use Rattle.trace_text.proofs.data_run.count_cycles.Given as goal

abbrev pub invariant-loop-count : goal.invariant-loop-count
invariant-loop-count l = AreCyclesOf l.kind l.ce (take l.count l.items) × (l.count ≤ length l.items)

abbrev pub decreases-loop-count : goal.decreases-loop-count
decreases-loop-count l = l.most - l.count
