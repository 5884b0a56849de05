use Rattle.std.proofs.Common.{length}
use Rattle.onfi_cycle.proofs.rules.+driver.Given as goal

abbrev pub decreases-driver : goal.decreases-driver
decreases-driver g l = length l.luns.now
