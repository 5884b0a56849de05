use Rattle.std.proofs.Common.{length}
use Rattle.trace_wave.proofs.header.+push_settings.Given as goal

abbrev pub decreases-push_settings : goal.decreases-push_settings
decreases-push_settings g l = length l.levels.now
