use Rattle.std.proofs.Common.{length}
use Rattle.target_record.proofs.whole.+is_in_use.Given as goal

abbrev pub decreases-is_in_use : goal.decreases-is_in_use
decreases-is_in_use l = length l.queue.now
