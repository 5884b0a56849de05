use Rattle.std.proofs.Common.{sym, ap, ◌∙◌}
use Rattle.onfi_cycle.specs.State.{bus}
use Rattle.onfi_cycle.specs.Outputs.{judged_outputs}
use Rattle.onfi_cycle.specs.declared.item.Kind.TheVariants.{Dout}
use Rattle.onfi_cycle.proofs.Runs.{run_judged}
use Rattle.onfi_cycle.proofs.Outputs.{outputs_are_data}
use Rattle.onfi_cycle.proofs.bus_state.BusState.judge_outputs.Goals as goal

pub returns-clause-past : goal.returns-clause-past
returns-clause-past c = λ g n past bytes f count.
    c.judge_outputs_on.ensures ∙
    (ap (judged_outputs c.args.ce c.args.count) (ap (bus c.self.inside.geometry) c.as_slice.ensures.value ∙ c.self.view_is) ∙
    (ap (λ k. judged_outputs c.args.ce k c.args.self.now) (sym count) ∙ run_judged Dout outputs_are_data g n c.args.ce bytes c.args.self.now past f))
