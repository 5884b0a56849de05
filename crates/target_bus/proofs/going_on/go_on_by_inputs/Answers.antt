use Rattle.std.proofs.Common.{◌≤◌, refl, sym, subst}
use Rattle.onfi_cycle.specs.State.{BusView}
use Rattle.onfi_cycle.specs.Readies.{bus_due}
use Rattle.onfi_cycle.specs.declared.item.Kind.TheVariants.{Din}
use Rattle.onfi_cycle.proofs.Inputs.{inputs_are_data}
use Rattle.target_bus.proofs.Runs.{run_due}
use Rattle.target_bus.proofs.going_on.go_on_by_inputs.Goals as goal

pub returns-clause-due : goal.returns-clause-due
returns-clause-due c =
    subst (λ (s : BusView). bus_due s ≤ bus_due c.args.state.now) (sym c.apply_inputs.ensures.state)
    (run_due Din inputs_are_data (λ ce. refl) c.readies_are_due.ensures c.args.ce c.args.count c.args.state.now c.requires c.facts_fit.ensures.state)
