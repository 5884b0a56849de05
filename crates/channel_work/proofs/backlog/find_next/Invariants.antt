use Rattle.std.proofs.Common.{◌≤◌, ◌-◌, length}
use Rattle.channel_work.specs.Backlog.{NoneBelow}
use Rattle.channel_work.proofs.backlog.find_next.Given as goal

abbrev pub invariant-loop-place : goal.invariant-loop-place
invariant-loop-place l = NoneBelow l.lun l.places l.place × (l.place ≤ length l.places)

abbrev pub decreases-loop-place : goal.decreases-loop-place
decreases-loop-place l = length l.places - l.place
