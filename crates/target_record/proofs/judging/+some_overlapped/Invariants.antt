use Rattle.std.proofs.Common.{length}
use Rattle.target_record.proofs.judging.+some_overlapped.Given as goal

abbrev pub decreases-some_overlapped : goal.decreases-some_overlapped
decreases-some_overlapped l = length l.luns.now
