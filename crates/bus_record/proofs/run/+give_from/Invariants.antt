use Rattle.std.proofs.Common.{length}
use Rattle.bus_record.proofs.run.+give_from.Given as goal

abbrev pub decreases-give_from : goal.decreases-give_from
decreases-give_from l = length l.luns.now
