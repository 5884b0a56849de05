use Rattle.std.proofs.Common.{length}
use Rattle.target_record.proofs.lun_change.+page_in_plane.Given as goal

abbrev pub decreases-page_in_plane : goal.decreases-page_in_plane
decreases-page_in_plane l = length l.held.now
