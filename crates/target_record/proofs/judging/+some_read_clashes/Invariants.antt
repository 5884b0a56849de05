use Rattle.std.proofs.Common.{length}
use Rattle.target_record.proofs.judging.+some_read_clashes.Given as goal

abbrev pub decreases-some_read_clashes : goal.decreases-some_read_clashes
decreases-some_read_clashes l = length l.queue.now
