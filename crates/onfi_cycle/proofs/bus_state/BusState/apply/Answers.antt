use Rattle.std.proofs.Common.{◌∷◌, length, subst, sym, ap, ◌∙◌, refl}
use Rattle.onfi_cycle.specs.State.{Follows, bus_after, bus}
use Rattle.onfi_cycle.proofs.Following.{bus_goes_on, refilled}
use Rattle.onfi_cycle.proofs.bus_state.BusState.apply.Goals as goal

pub returns-clause-state : goal.returns-clause-state
returns-clause-state c =
    ap (bus c.self.inside.geometry) (refilled (length c.self.inside.targets.items) c.self.inside.targets.items c.apply_on.new.targets (c.apply_on.auto.targets ∙ ap length c.as_mut_slice.ensures.value) refl) ∙
    (c.apply_on.ensures.value ∙ ap (bus_after c.args.item) (ap (bus c.self.inside.geometry) c.as_mut_slice.ensures.value ∙ c.self.view_is))

pub returns-clause-past : goal.returns-clause-past
returns-clause-past c = λ g n past f. subst (λ s. Follows g n s (c.args.item ∷ past)) (sym (returns-clause-state c)) (bus_goes_on g n c.args.self.now past c.args.item c.requires f)
