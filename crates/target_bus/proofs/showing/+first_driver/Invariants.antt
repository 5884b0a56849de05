use Rattle.std.proofs.Common.{◌-◌}
use Rattle.target_bus.proofs.showing.+first_driver.Given as goal

abbrev pub decreases-first_driver : goal.decreases-first_driver
decreases-first_driver l = l.luns - l.lun
