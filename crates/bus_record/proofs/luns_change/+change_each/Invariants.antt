use Rattle.std.proofs.Common.{length}
use Rattle.bus_record.proofs.luns_change.+change_each.Given as goal

abbrev pub decreases-change_each : goal.decreases-change_each
decreases-change_each l = length l.luns.now
