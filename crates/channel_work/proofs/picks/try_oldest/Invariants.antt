use Rattle.std.proofs.Common.{◌-◌, length}
use Rattle.channel_work.proofs.Picking.{IsTrying}
use Rattle.channel_work.proofs.picks.try_oldest.Given as goal

abbrev pub invariant-loop-place : goal.invariant-loop-place
invariant-loop-place l = IsTrying l.core l.places l.fn.seat l.back l.fronts l.from

abbrev pub decreases-loop-place : goal.decreases-loop-place
decreases-loop-place l = length l.places - l.from
