use Rattle.std.proofs.Common.{length}
use Rattle.onfi_cycle.proofs.target_state.+apply_from.Given as goal

abbrev pub decreases-apply_from : goal.decreases-apply_from
decreases-apply_from l = length l.luns.now
