use Rattle.std.proofs.Common.{length}
use Rattle.target_record.proofs.judging.+some_programs.Given as goal

abbrev pub decreases-some_programs : goal.decreases-some_programs
decreases-some_programs l = length l.luns.now
