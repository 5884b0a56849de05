use Rattle.std.proofs.Common.{length}
use Rattle.target_record.proofs.judging.+holds_plane.Given as goal

abbrev pub decreases-holds_plane : goal.decreases-holds_plane
decreases-holds_plane l = length l.held.now
