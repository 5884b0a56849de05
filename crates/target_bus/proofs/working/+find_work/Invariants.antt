use Rattle.std.proofs.Common.{◌-◌}
use Rattle.target_bus.proofs.working.+find_work.Given as goal

abbrev pub decreases-find_work : goal.decreases-find_work
decreases-find_work l = l.luns - l.lun
