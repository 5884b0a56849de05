use Rattle.std.proofs.Common.{length}
use Rattle.oracle_onfi.proofs.content.+opening_of.Given as goal

abbrev pub decreases-opening_of : goal.decreases-opening_of
decreases-opening_of l = length l.opening.now
