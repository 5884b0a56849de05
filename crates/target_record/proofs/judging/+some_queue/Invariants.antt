use Rattle.std.proofs.Common.{length}
use Rattle.target_record.proofs.judging.+some_queue.Given as goal

abbrev pub decreases-some_queue : goal.decreases-some_queue
decreases-some_queue l = length l.luns.now
