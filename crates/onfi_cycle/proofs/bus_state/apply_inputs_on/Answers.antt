use Rattle.std.proofs.Common.{sym, ◌∙◌, subst}
use Rattle.onfi_cycle.specs.Bounds.{BusFits}
use Rattle.onfi_cycle.specs.State.{bus}
use Rattle.onfi_cycle.specs.declared.item.Kind.TheVariants.{Din}
use Rattle.onfi_cycle.proofs.Runs.{run_fits}
use Rattle.onfi_cycle.proofs.Inputs.{inputs_are_data, inputs_applied, few_after}
use Rattle.onfi_cycle.proofs.bus_state.apply_inputs_on.Goals as goal

pub returns-else-takes_features-clause-value : goal.returns-else-takes_features-clause-value
returns-else-takes_features-clause-value c =
    inputs_applied c.args.geometry.now c.args.targets.now c.args.ce c.from.result c.args.count c.index-targets-from.result _ c.from.ensures c.requires.fits c.requires.some (sym c.takes_features.ensures ∙ c.if-takes_features.false) c.requires.permitted c.feed.ensures

pub returns-else-takes_features-clause-fits : goal.returns-else-takes_features-clause-fits
returns-else-takes_features-clause-fits c =
    subst BusFits (sym (returns-else-takes_features-clause-value c))
    (run_fits Din inputs_are_data c.args.ce c.args.count (bus c.args.geometry.now c.args.targets.now) c.requires.permitted c.requires.fits)

pub feed-requires : goal.feed-requires
feed-requires c =
    record { few = few_after c.args.geometry.now c.args.targets.now c.args.ce c.from.result c.args.count c.index-targets-from.result c.from.ensures c.requires.some (sym c.takes_features.ensures ∙ c.if-takes_features.false) c.requires.permitted c.requires.fits }
