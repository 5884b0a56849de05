use Rattle.std.proofs.Common.{length}
use Rattle.oracle_onfi.proofs.content.+left_by_all.Given as goal

abbrev pub decreases-left_by_all : goal.decreases-left_by_all
decreases-left_by_all l = length l.works.now
