use Rattle.std.proofs.Common.{length}
use Rattle.channel_work.proofs.channel_state.find_begun.Given as goal

abbrev pub decreases-items : goal.decreases-items
decreases-items l = length l.rest
