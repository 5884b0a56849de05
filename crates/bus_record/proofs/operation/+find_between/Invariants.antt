use Rattle.std.proofs.Common.{◌-◌}
use Rattle.bus_record.proofs.operation.+find_between.Given as goal

abbrev pub decreases-find_between : goal.decreases-find_between
decreases-find_between l = l.high - l.low
