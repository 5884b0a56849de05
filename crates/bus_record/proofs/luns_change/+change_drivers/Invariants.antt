use Rattle.std.proofs.Common.{length}
use Rattle.bus_record.proofs.luns_change.+change_drivers.Given as goal

abbrev pub decreases-change_drivers : goal.decreases-change_drivers
decreases-change_drivers l = length l.luns.now
