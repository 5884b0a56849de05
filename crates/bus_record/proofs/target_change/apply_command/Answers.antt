use Rattle.std.proofs.Common.{List, take, ap, sym, subst, ◌∙◌}
use Rattle.onfi_cycle.specs.declared.item.Kind.{Kind}
use Rattle.onfi_cycle.specs.declared.target_cycle.TargetCycle.TheVariants.{CommandCycle}
use Rattle.onfi_cycle.specs.Sequence.{target_cycle}
use Rattle.onfi_cycle.proofs.Applied.{target_cycled}
use Rattle.bus_record.specs.Changing.{AreLittle, HaveRoom, luns_left}
use Rattle.target_record.specs.Geometry.{parts_of}
use Rattle.target_record.specs.Record.{luns_of, tail_of, target_of}
use Rattle.target_record.specs.declared.record.OnfiseqLun.{OnfiseqLun}
use Rattle.bus_record.specs.declared.target_effect.TargetEffect.{TargetEffect}
use Rattle.bus_record.proofs.Changed.{are_little, room_after, same_first}
use Rattle.bus_record.proofs.Done.{command_left}
use Rattle.bus_record.proofs.target_change.apply_command.Goals as goal

pub change_first-requires-clause-small : goal.change_first-requires-clause-small
change_first-requires-clause-small c =
    subst AreLittle (sym (same_first _ _ _ _ c.note_command.ensures.count c.note_command.ensures.luns))
    (are_little (parts_of c.args.geometry.now) (tail_of c.args.kept.now) 0 (take c.args.kept.now.count c.args.kept.now.luns) c.requires.fits.luns)

pub change_first-requires-clause-room : goal.change_first-requires-clause-room
change_first-requires-clause-room c =
    let room = room_after (parts_of c.args.geometry.now) c.requires.limits c.args.targets c.args.cycle (CommandCycle c.args.named) (target_of c.args.kept.now) (tail_of c.note_command.new.kept)
    (ap CommandCycle c.requires.named ∙ ap (λ (k : Kind). target_cycle k c.args.cycle.byte) (sym c.requires.kind)) c.note_command.ensures.tail c.note_command.ensures.column c.requires.permitted c.requires.fits in
    let left = command_left (parts_of c.args.geometry.now) (tail_of c.args.kept.now) c.args.named (target_of c.args.kept.now).luns in
    subst (λ (ls : List OnfiseqLun). HaveRoom (luns_left c.effect_of_command-effect.result (luns_of ls))) (sym (same_first _ _ _ _ c.note_command.ensures.count c.note_command.ensures.luns))
    (subst (λ (e : TargetEffect). HaveRoom (luns_left e (target_of c.args.kept.now).luns)) (sym c.effect_of_command-effect.ensures) (subst HaveRoom (sym left) room))

pub returns-clause-value : goal.returns-clause-value
returns-clause-value c =
    target_cycled (parts_of c.args.geometry.now) c.args.cycle (CommandCycle c.args.named) (target_of c.args.kept.now) _ (ap CommandCycle c.requires.named ∙ ap (λ (k : Kind). target_cycle k c.args.cycle.byte) (sym c.requires.kind)) c.note_command.ensures.tail
    (c.change_first.ensures.value
    ∙ (ap (λ (ls : List OnfiseqLun). luns_left c.effect_of_command-effect.result (luns_of ls)) (same_first _ _ _ _ c.note_command.ensures.count c.note_command.ensures.luns)
    ∙ (ap (λ (e : TargetEffect). luns_left e (target_of c.args.kept.now).luns) c.effect_of_command-effect.ensures
    ∙ command_left (parts_of c.args.geometry.now) (tail_of c.args.kept.now) c.args.named (target_of c.args.kept.now).luns)))
