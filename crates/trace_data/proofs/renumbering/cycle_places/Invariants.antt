use Rattle.std.proofs.Common.{◌≡◌, ◌+◌, ◌++◌, length}
use Rattle.trace_data.specs.Numbers.{cycle_places}
use Rattle.trace_data.proofs.renumbering.cycle_places.Given as goal

abbrev pub invariant-rest : goal.invariant-rest
invariant-rest l = (l.places.items ++ cycle_places l.place l.rest ≡ cycle_places 0 l.items) × (l.place + length l.rest ≡ length l.items)

abbrev pub decreases-rest : goal.decreases-rest
decreases-rest l = length l.rest
