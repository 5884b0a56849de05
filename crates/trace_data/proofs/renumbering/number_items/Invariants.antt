use Rattle.std.proofs.Common.{◌≡◌, ◌++◌, length}
use Rattle.trace_data.specs.Numbers.{cycle_places, numbers_of}
use Rattle.trace_data.proofs.renumbering.number_items.Given as goal

abbrev pub invariant-rest : goal.invariant-rest
invariant-rest l = l.numbers.items ++ numbers_of l.left l.rest ≡ numbers_of (cycle_places 0 l.other) l.items

abbrev pub decreases-rest : goal.decreases-rest
decreases-rest l = length l.rest
