use Rattle.std.proofs.Common.{length}
use Rattle.onfiseq_live_c.proofs.bursts.+try_bursts.Given as goal

abbrev pub decreases-try_bursts : goal.decreases-try_bursts
decreases-try_bursts l = length l.bursts.now
