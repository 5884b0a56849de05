use Rattle.std.proofs.Common.{length}
use Rattle.oracle_onfi.proofs.past.+luns_of.Given as goal

abbrev pub decreases-luns_of : goal.decreases-luns_of
decreases-luns_of l = length l.past.now
