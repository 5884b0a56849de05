use Rattle.std.proofs.Common.{length}
use Rattle.oracle_onfi.proofs.content.+filled.Given as goal

abbrev pub decreases-filled : goal.decreases-filled
decreases-filled l = length l.past.now
