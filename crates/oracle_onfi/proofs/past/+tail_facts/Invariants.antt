use Rattle.std.proofs.Common.{length}
use Rattle.oracle_onfi.proofs.past.+tail_facts.Given as goal

abbrev pub decreases-tail_facts : goal.decreases-tail_facts
decreases-tail_facts l = length l.past.now
