use Rattle.std.proofs.Common.{sym, ap, ◌∙◌}
use Rattle.std.specs.Option.{option_copied}
use Rattle.onfi_cycle.specs.State.{judged, bus}
use Rattle.onfi_cycle.specs.declared.item.Kind.TheVariants.{Din}
use Rattle.onfi_cycle.proofs.Working.{target_fits_at}
use Rattle.onfi_cycle.proofs.Runs.{judged_first}
use Rattle.onfi_cycle.proofs.Inputs.{judged_some}
use Rattle.onfi_cycle.proofs.bus_state.judge_inputs_on.Goals as goal

pub returns-in-Some : goal.returns-in-Some
returns-in-Some c =
    judged_first Din (bus c.args.geometry.now c.args.targets.now) c.args.ce c.args.count c.in-Some.rule c.requires.some
    (sym c.in-Some.is ∙ (c.judge_on.ensures ∙ ap (judged (bus c.args.geometry.now c.args.targets.now)) c.data_cycle.ensures))

pub against_inputs-requires-clause-fits : goal.against_inputs-requires-clause-fits
against_inputs-requires-clause-fits c =
    target_fits_at c.args.geometry.now c.args.targets.now c.args.ce c.in-Some-target_at.target.now c.requires.fits.targets
    (sym c.target_at.ensures ∙ ap option_copied c.in-Some-target_at.is)

pub returns-in-Some-target_at : goal.returns-in-Some-target_at
returns-in-Some-target_at c =
    c.against_inputs.ensures ∙
    judged_some (bus c.args.geometry.now c.args.targets.now) c.args.ce c.args.count c.in-Some-target_at.target.now c.requires.fits c.requires.some
    (sym c.target_at.ensures ∙ ap option_copied c.in-Some-target_at.is)
    (sym c.in_default.is ∙ (c.judge_on.ensures ∙ ap (judged (bus c.args.geometry.now c.args.targets.now)) c.data_cycle.ensures))
