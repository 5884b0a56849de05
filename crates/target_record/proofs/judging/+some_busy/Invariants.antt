use Rattle.std.proofs.Common.{length}
use Rattle.target_record.proofs.judging.+some_busy.Given as goal

abbrev pub decreases-some_busy : goal.decreases-some_busy
decreases-some_busy l = length l.luns.now
