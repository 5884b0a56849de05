use Rattle.std.proofs.Common.{length}
use Rattle.oracle_onfi.proofs.past.+stepped_from.Given as goal

abbrev pub decreases-stepped_from : goal.decreases-stepped_from
decreases-stepped_from l = length l.before.now
