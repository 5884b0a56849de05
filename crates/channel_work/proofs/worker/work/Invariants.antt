use Rattle.channel_work.specs.State.{HasTurnedOn}
use Rattle.channel_work.proofs.worker.work.Given as goal

abbrev pub invariant-loop : goal.invariant-loop
invariant-loop g l = HasTurnedOn l.fn.pass l.pass
