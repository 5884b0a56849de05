use Rattle.std.proofs.Common.{length}
use Rattle.trace_wave.proofs.room.+write_changes.Given as goal

abbrev pub decreases-write_changes : goal.decreases-write_changes
decreases-write_changes l = length l.before.now
