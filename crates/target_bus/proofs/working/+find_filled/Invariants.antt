use Rattle.std.proofs.Common.{◌-◌}
use Rattle.target_bus.proofs.working.+find_filled.Given as goal

abbrev pub decreases-find_filled : goal.decreases-find_filled
decreases-find_filled l = l.luns - l.lun
