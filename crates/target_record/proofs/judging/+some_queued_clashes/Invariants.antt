use Rattle.std.proofs.Common.{length}
use Rattle.target_record.proofs.judging.+some_queued_clashes.Given as goal

abbrev pub decreases-some_queued_clashes : goal.decreases-some_queued_clashes
decreases-some_queued_clashes l = length l.queue.now
