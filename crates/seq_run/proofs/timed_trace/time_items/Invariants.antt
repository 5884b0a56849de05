use Rattle.seq_run.proofs.Timing.{AreTimed}
use Rattle.seq_run.proofs.timed_trace.time_items.Given as goal

abbrev pub invariant-loop-item : goal.invariant-loop-item
invariant-loop-item l = AreTimed l.items l.item-index l.timed.items l.clock
