use Rattle.std.proofs.Common.{length}
use Rattle.target_record.proofs.judging.+some_works_for_target.Given as goal

abbrev pub decreases-some_works_for_target : goal.decreases-some_works_for_target
decreases-some_works_for_target l = length l.luns.now
