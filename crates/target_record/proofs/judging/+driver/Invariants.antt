use Rattle.std.proofs.Common.{length}
use Rattle.target_record.proofs.judging.+driver.Given as goal

abbrev pub decreases-driver : goal.decreases-driver
decreases-driver l = length l.luns.now
