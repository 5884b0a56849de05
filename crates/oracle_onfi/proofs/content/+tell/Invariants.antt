use Rattle.std.proofs.Common.{length}
use Rattle.oracle_onfi.proofs.content.+tell.Given as goal

abbrev pub decreases-tell : goal.decreases-tell
decreases-tell l = length l.past.now
