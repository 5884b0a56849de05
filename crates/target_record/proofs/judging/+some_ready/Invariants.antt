use Rattle.std.proofs.Common.{length}
use Rattle.target_record.proofs.judging.+some_ready.Given as goal

abbrev pub decreases-some_ready : goal.decreases-some_ready
decreases-some_ready l = length l.luns.now
