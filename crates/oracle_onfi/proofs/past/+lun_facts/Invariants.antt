use Rattle.std.proofs.Common.{length}
use Rattle.oracle_onfi.proofs.past.+lun_facts.Given as goal

abbrev pub decreases-lun_facts : goal.decreases-lun_facts
decreases-lun_facts l = length l.past.now
