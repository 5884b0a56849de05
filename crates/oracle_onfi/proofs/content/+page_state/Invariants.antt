use Rattle.std.proofs.Common.{length}
use Rattle.oracle_onfi.proofs.content.+page_state.Given as goal

abbrev pub decreases-page_state : goal.decreases-page_state
decreases-page_state l = length l.past.now
