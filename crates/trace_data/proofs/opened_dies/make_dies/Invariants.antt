use Rattle.std.proofs.Common.{◌≡◌, true, length, replicate}
use Rattle.die_model.specs.Die.{new_die}
use Rattle.target_bus.specs.Bus.{are_new}
use Rattle.trace_data.proofs.opened_dies.make_dies.Given as goal

abbrev pub invariant-loop : goal.invariant-loop
invariant-loop l = (length l.dies.items ≡ l.counter) × (are_new l.geometry l.dies.items ≡ true) × (l.dies.items ≡ replicate l.counter (new_die l.geometry))
