use Rattle.std.proofs.Common.{◌≡◌, None, length, refl, sym, ap, subst, ◌∙◌}
use Rattle.onfi_cycle.specs.State.{Follows, bus}
use Rattle.onfi_cycle.specs.Inputs.{with_inputs, judged_inputs, after_inputs}
use Rattle.onfi_cycle.proofs.Following.{refilled}
use Rattle.onfi_cycle.specs.declared.item.Kind.TheVariants.{Din}
use Rattle.onfi_cycle.proofs.Runs.{run_followed}
use Rattle.onfi_cycle.proofs.Inputs.{inputs_are_data}
use Rattle.onfi_cycle.proofs.bus_state.BusState.apply_inputs.Goals as goal

pub returns-then-count-gt0-clause-state : goal.returns-then-count-gt0-clause-state
returns-then-count-gt0-clause-state c =
    ap (bus c.self.inside.geometry) (refilled (length c.self.inside.targets.items) c.self.inside.targets.items c.apply_inputs_on.new.targets (c.apply_inputs_on.auto.targets ∙ ap length c.as_mut_slice.ensures.value) refl) ∙
    (c.apply_inputs_on.ensures.value ∙ ap (after_inputs c.args.ce c.args.count) (ap (bus c.self.inside.geometry) c.as_mut_slice.ensures.value ∙ c.self.view_is))

pub returns-then-count-gt0-clause-past : goal.returns-then-count-gt0-clause-past
returns-then-count-gt0-clause-past c = λ g n past bytes f count.
    subst (λ s. Follows g n s (with_inputs c.args.ce bytes past)) (sym (returns-then-count-gt0-clause-state c))
    (subst (λ k. Follows g n (after_inputs c.args.ce k c.args.self.now) (with_inputs c.args.ce bytes past)) count
    (run_followed Din inputs_are_data g n c.args.ce bytes c.args.self.now past (subst (λ k. judged_inputs c.args.ce k c.args.self.now ≡ None) (sym count) c.requires) f))
