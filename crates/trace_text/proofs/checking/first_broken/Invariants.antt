use Rattle.std.proofs.Common.{◌-◌, ◌≤◌, reverse, take, length}
use Rattle.onfi_cycle.specs.State.{Follows}
use Rattle.trace_text.proofs.checking.first_broken.Given as goal

abbrev pub invariant-loop-place : goal.invariant-loop-place
invariant-loop-place g l = Follows l.geometry l.targets l.state (reverse (take l.place l.items)) × (l.place ≤ length l.items)

abbrev pub decreases-loop-place : goal.decreases-loop-place
decreases-loop-place g l = length l.items - l.place
