use Rattle.std.proofs.Common.{length}
use Rattle.bus_record.proofs.luns_change.+give_each.Given as goal

abbrev pub decreases-give_each : goal.decreases-give_each
decreases-give_each l = length l.luns.now
