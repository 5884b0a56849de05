use Rattle.std.proofs.Common.{length}
use Rattle.bus_record.proofs.luns_change.+change_apart.Given as goal

abbrev pub decreases-change_apart : goal.decreases-change_apart
decreases-change_apart l = length l.luns.now
