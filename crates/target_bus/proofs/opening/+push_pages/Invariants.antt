use Rattle.std.proofs.Common.{length}
use Rattle.target_bus.proofs.opening.+push_pages.Given as goal

abbrev pub decreases-push_pages : goal.decreases-push_pages
decreases-push_pages g l = length l.dies.now
