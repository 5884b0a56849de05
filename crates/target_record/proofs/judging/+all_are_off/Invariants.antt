use Rattle.std.proofs.Common.{length}
use Rattle.target_record.proofs.judging.+all_are_off.Given as goal

abbrev pub decreases-all_are_off : goal.decreases-all_are_off
decreases-all_are_off l = length l.luns.now
