use Rattle.std.proofs.Common.{length}
use Rattle.onfi_cycle.proofs.held.+page_in_plane.Given as goal

abbrev pub decreases-page_in_plane : goal.decreases-page_in_plane
decreases-page_in_plane l = length l.held.now
