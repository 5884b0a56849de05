use Rattle.std.proofs.Common.{sym, subst}
use Rattle.onfi_cycle.specs.Bounds.{BusFits}
use Rattle.onfi_cycle.specs.State.{bus}
use Rattle.onfi_cycle.specs.declared.item.Kind.TheVariants.{Dout}
use Rattle.onfi_cycle.proofs.Runs.{run_fits}
use Rattle.onfi_cycle.proofs.Outputs.{outputs_are_data, outputs_applied, few_after}
use Rattle.onfi_cycle.proofs.bus_state.apply_outputs_on.Goals as goal

pub returns-clause-value : goal.returns-clause-value
returns-clause-value c =
    outputs_applied c.args.geometry.now c.args.targets.now c.args.ce c.from.result c.args.count c.index-targets-from.result _ c.from.ensures c.requires.some c.requires.permitted c.give.ensures

pub returns-clause-fits : goal.returns-clause-fits
returns-clause-fits c =
    subst BusFits (sym (returns-clause-value c))
    (run_fits Dout outputs_are_data c.args.ce c.args.count (bus c.args.geometry.now c.args.targets.now) c.requires.permitted c.requires.fits)

pub give-requires-clause-few : goal.give-requires-clause-few
give-requires-clause-few c =
    few_after c.args.geometry.now c.args.targets.now c.args.ce c.from.result c.args.count c.index-targets-from.result c.from.ensures c.requires.some c.requires.permitted c.requires.fits
