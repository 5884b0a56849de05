use Rattle.std.proofs.Common.{length}
use Rattle.bus_record.proofs.luns_change.+show_status_of_each.Given as goal

abbrev pub decreases-show_status_of_each : goal.decreases-show_status_of_each
decreases-show_status_of_each l = length l.luns.now
