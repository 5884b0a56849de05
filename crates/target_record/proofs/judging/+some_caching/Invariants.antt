use Rattle.std.proofs.Common.{length}
use Rattle.target_record.proofs.judging.+some_caching.Given as goal

abbrev pub decreases-some_caching : goal.decreases-some_caching
decreases-some_caching l = length l.luns.now
