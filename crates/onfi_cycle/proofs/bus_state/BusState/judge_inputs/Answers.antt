use Rattle.std.proofs.Common.{sym, ap, ◌∙◌}
use Rattle.onfi_cycle.specs.State.{bus}
use Rattle.onfi_cycle.specs.Inputs.{judged_inputs}
use Rattle.onfi_cycle.specs.declared.item.Kind.TheVariants.{Din}
use Rattle.onfi_cycle.proofs.Runs.{run_judged}
use Rattle.onfi_cycle.proofs.Inputs.{inputs_are_data}
use Rattle.onfi_cycle.proofs.bus_state.BusState.judge_inputs.Goals as goal

pub returns-clause-past : goal.returns-clause-past
returns-clause-past c = λ g n past bytes f count.
    c.judge_inputs_on.ensures ∙
    (ap (judged_inputs c.args.ce c.args.count) (ap (bus c.self.inside.geometry) c.as_slice.ensures.value ∙ c.self.view_is) ∙
    (ap (λ k. judged_inputs c.args.ce k c.args.self.now) (sym count) ∙ run_judged Din inputs_are_data g n c.args.ce bytes c.args.self.now past f))
