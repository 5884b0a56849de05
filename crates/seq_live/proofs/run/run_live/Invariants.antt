use Rattle.seq_live.proofs.Turns.{RoundsSoFar}
use Rattle.seq_live.proofs.run.run_live.Given as goal

abbrev pub invariant-loop : goal.invariant-loop
invariant-loop g l = RoundsSoFar l.limits.busy_polls l.fn.live l.live l.fn.jobs l.jobs l.counter (g.P.Pins.driven l.fn.pins) (g.P.Pins.driven l.pins)
