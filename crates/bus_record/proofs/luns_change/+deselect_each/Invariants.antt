use Rattle.std.proofs.Common.{length}
use Rattle.bus_record.proofs.luns_change.+deselect_each.Given as goal

abbrev pub decreases-deselect_each : goal.decreases-deselect_each
decreases-deselect_each l = length l.luns.now
