use Rattle.seq_live.proofs.Turns.{RoundSoFar}
use Rattle.seq_live.proofs.run.do_round.Given as goal

abbrev pub invariant-loop-place : goal.invariant-loop-place
invariant-loop-place g l = RoundSoFar l.most l.fn.live l.live l.fn.jobs l.jobs l.place l.turns.had (g.P.Pins.driven l.fn.pins) (g.P.Pins.driven l.pins)
