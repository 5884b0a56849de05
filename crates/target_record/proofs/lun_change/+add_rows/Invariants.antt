use Rattle.std.proofs.Common.{length}
use Rattle.target_record.proofs.lun_change.+add_rows.Given as goal

abbrev pub decreases-add_rows : goal.decreases-add_rows
decreases-add_rows l = length l.queue.now
