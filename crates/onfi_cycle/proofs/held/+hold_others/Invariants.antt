use Rattle.std.proofs.Common.{length}
use Rattle.onfi_cycle.proofs.held.+hold_others.Given as goal

abbrev pub decreases-hold_others : goal.decreases-hold_others
decreases-hold_others l = length l.held.now
