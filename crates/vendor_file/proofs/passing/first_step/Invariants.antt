use Rattle.std.proofs.Common.{◌≡◌, ◌+◌, length}
use Rattle.vendor_file.specs.Passing.{first_step}
use Rattle.vendor_file.proofs.passing.first_step.Given as goal

abbrev pub invariant-rest : goal.invariant-rest
invariant-rest l = (first_step l.profile l.place l.byte l.next l.rest ≡ first_step l.profile 0 l.byte l.next l.steps) × (l.place + length l.rest ≡ length l.steps)

abbrev pub decreases-rest : goal.decreases-rest
decreases-rest l = length l.rest
