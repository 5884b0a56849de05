use Rattle.std.proofs.Common.{length}
use Rattle.seq_live.proofs.moving.+apply_all.Given as goal

abbrev pub decreases-apply_all : goal.decreases-apply_all
decreases-apply_all l = length l.bursts.now
