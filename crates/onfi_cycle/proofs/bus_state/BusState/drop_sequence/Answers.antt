use Rattle.std.proofs.Common.{◌≡◌, length, subst, sym, ap, ◌∙◌, refl}
use Rattle.std.specs.List.{refill}
use Rattle.onfi_cycle.specs.Bounds.{BusFits}
use Rattle.onfi_cycle.specs.State.{bus, bus_without, changed_at, without_sequence}
use Rattle.onfi_cycle.proofs.Dropped.{dropped_fits}
use Rattle.onfi_cycle.proofs.Following.{refilled}
use Rattle.onfi_cycle.proofs.bus_state.BusState.drop_sequence.Goals as goal

-- what the slice holds then is what its vector holds
kept : (c : goal.After-self-2-1) → refill (length c.self.inside.targets.items) c.self.inside.targets.items c.drop_on.new.targets ≡ changed_at without_sequence c.args.ce c.self.inside.targets.items
kept c =
    refilled (length c.self.inside.targets.items) c.self.inside.targets.items c.drop_on.new.targets (c.drop_on.auto.targets ∙ ap length c.as_mut_slice.ensures.value) refl ∙
    (c.drop_on.ensures ∙ ap (changed_at without_sequence c.args.ce) c.as_mut_slice.ensures.value)

pub invariant_of-self : goal.invariant_of-self
invariant_of-self c = subst (λ ts. BusFits (bus c.self.inside.geometry ts)) (sym (kept c)) (dropped_fits c.self.inside.geometry c.self.inside.targets.items c.args.ce c.self.invariant)

pub returns : goal.returns
returns c = ap (bus c.self.inside.geometry) (kept c) ∙ ap (bus_without c.args.ce) c.self.view_is
