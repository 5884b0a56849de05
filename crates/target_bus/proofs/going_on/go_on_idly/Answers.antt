use Rattle.std.proofs.Common.{◌≤◌, sym, subst}
use Rattle.onfi_cycle.specs.State.{BusView}
use Rattle.onfi_cycle.specs.Readies.{bus_due}
use Rattle.target_bus.proofs.going_on.go_on_idly.Goals as goal

pub returns-clause-due : goal.returns-clause-due
returns-clause-due c =
    subst (λ (s : BusView). bus_due s ≤ bus_due c.args.state.now) (sym c.apply.ensures.state)
    (c.readies_are_due.ensures.cycles c.args.state.now c.args.item c.facts_fit.ensures.state c.requires.cycle c.requires.idle)
