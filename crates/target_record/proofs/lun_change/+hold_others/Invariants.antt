use Rattle.std.proofs.Common.{length}
use Rattle.target_record.proofs.lun_change.+hold_others.Given as goal

abbrev pub decreases-hold_others : goal.decreases-hold_others
decreases-hold_others l = length l.kept.now
