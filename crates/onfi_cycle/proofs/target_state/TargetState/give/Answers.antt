use Rattle.std.proofs.Common.{◌∙◌, sym, ap, subst, map, List}
use Rattle.onfi_cycle.specs.LunView.{LunView}
use Rattle.onfi_cycle.specs.State.{TargetView}
use Rattle.onfi_cycle.specs.Outputs.{AreFew, given_on}
use Rattle.onfi_cycle.proofs.target_state.TargetState.give.Goals as goal

pub give_from-requires : goal.give_from-requires
give_from-requires c =
    subst (λ (vs : List LunView). AreFew (map (given_on c.args.count) vs)) (sym (c.as_mut_slice.ensures.value ∙ ap (λ (s : TargetView). s.luns) c.self.view_is)) c.requires.few
