use Rattle.run_once.proofs.Turns.{StillRuns}
use Rattle.run_once.proofs.once.run_to_end.Given as goal

abbrev pub invariant-loop : goal.invariant-loop
invariant-loop g l = StillRuns l.fn.core l.turns l.counter l.core
