use Rattle.std.proofs.Common.{length}
use Rattle.target_record.proofs.whole.+luns_fit.Given as goal

abbrev pub decreases-luns_fit : goal.decreases-luns_fit
decreases-luns_fit l = length l.luns.now
