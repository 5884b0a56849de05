use Rattle.std.proofs.Common.{length, sym, ap, ◌∙◌, refl}
use Rattle.onfi_cycle.specs.declared.effect.Effect.TheVariants.{BecameReady, ArrayBecameReady}
use Rattle.onfi_cycle.specs.declared.item.Item.{Item}
use Rattle.onfi_cycle.specs.Applied.{one_after}
use Rattle.onfi_cycle.specs.State.{target_after}
use Rattle.onfi_cycle.proofs.Applied.{target_cycled, target_readied, target_array_readied}
use Rattle.onfi_cycle.proofs.Following.{refilled}
use Rattle.onfi_cycle.proofs.target_state.TargetState.apply.Goals as goal

pub returns-in-Cyc-clause-value : goal.returns-in-Cyc-clause-value
returns-in-Cyc-clause-value c =
    target_cycled c.args.geometry.now c.in-Cyc.cycle c.of.result c.args.self.now c.apply_cycle.new.self c.of.ensures c.apply_cycle.ensures.tail c.apply_cycle.ensures.luns ∙
    ap (λ (i : Item). target_after c.args.geometry.now i c.args.self.now) (sym c.in-Cyc.is)

pub returns-in-Rdy-clause-value : goal.returns-in-Rdy-clause-value
returns-in-Rdy-clause-value c =
    target_readied c.args.geometry.now c.in-Rdy.ce c.in-Rdy.lun c.in-Rdy.fail c.self.inside.tail c.self.inside.luns.items _ c.args.self.now
    (refilled (length c.self.inside.luns.items) c.self.inside.luns.items c.end_work.new.luns (c.end_work.auto.luns ∙ ap length c.as_mut_slice.ensures.value) refl ∙
    (c.end_work.ensures ∙ ap (one_after (BecameReady c.in-Rdy.fail) c.in-Rdy.lun) c.as_mut_slice.ensures.value))
    c.self.view_is ∙
    ap (λ (i : Item). target_after c.args.geometry.now i c.args.self.now) (sym c.in-Rdy.is)

pub returns-in-Ard-clause-value : goal.returns-in-Ard-clause-value
returns-in-Ard-clause-value c =
    target_array_readied c.args.geometry.now c.in-Ard.ce c.in-Ard.lun c.in-Ard.fail c.self-in-Ard.inside.tail c.self-in-Ard.inside.luns.items _ c.args.self.now
    (refilled (length c.self-in-Ard.inside.luns.items) c.self-in-Ard.inside.luns.items c.end_array_work.new.luns (c.end_array_work.auto.luns ∙ ap length c.as_mut_slice-in-Ard.ensures.value) refl ∙
    (c.end_array_work.ensures ∙ ap (one_after (ArrayBecameReady c.in-Ard.fail) c.in-Ard.lun) c.as_mut_slice-in-Ard.ensures.value))
    c.self-in-Ard.view_is ∙
    ap (λ (i : Item). target_after c.args.geometry.now i c.args.self.now) (sym c.in-Ard.is)
