use Rattle.std.proofs.Common.{◌≡◌, []}
use Rattle.onfi_cycle.specs.State.{targets_from}
use Rattle.onfi_cycle.proofs.bus_state.BusState.new.Given as goal

abbrev pub invariant-loop : goal.invariant-loop
invariant-loop l = l.all.items ≡ targets_from l.geometry [] l.counter 0
