use Rattle.std.proofs.Common.{List, take, ap, sym, subst, ◌∙◌}
use Rattle.bus_record.specs.Changing.{AreLittle, HaveRoom, luns_left}
use Rattle.target_record.specs.Geometry.{parts_of}
use Rattle.target_record.specs.Record.{luns_of, tail_of, target_of}
use Rattle.target_record.specs.declared.record.OnfiseqLun.{OnfiseqLun}
use Rattle.bus_record.specs.declared.target_effect.TargetEffect.{TargetEffect}
use Rattle.bus_record.proofs.Changed.{after_input, are_little, input_room, same_first}
use Rattle.bus_record.proofs.target_change.apply_input.Goals as goal

pub change_first-requires-clause-small : goal.change_first-requires-clause-small
change_first-requires-clause-small c =
    subst AreLittle (sym (same_first _ _ _ _ c.note_input.ensures.count c.note_input.ensures.luns))
    (are_little (parts_of c.args.geometry.now) (tail_of c.args.kept.now) 0 (take c.args.kept.now.count c.args.kept.now.luns) c.requires.fits.luns)

pub change_first-requires-clause-room : goal.change_first-requires-clause-room
change_first-requires-clause-room c =
    subst (λ (ls : List OnfiseqLun). HaveRoom (luns_left c.effect_of_input-effect.result (luns_of ls))) (sym (same_first _ _ _ _ c.note_input.ensures.count c.note_input.ensures.luns))
    (subst (λ (e : TargetEffect). HaveRoom (luns_left e (target_of c.args.kept.now).luns)) (sym c.effect_of_input-effect.ensures) (input_room (parts_of c.args.geometry.now) (target_of c.args.kept.now) c.requires.fits))

pub returns-clause-value : goal.returns-clause-value
returns-clause-value c =
    after_input (parts_of c.args.geometry.now) c.args.cycle (target_of c.args.kept.now) _ c.requires.input (c.note_input.ensures.tail c.args.cycle.byte)
    (c.change_first.ensures.value
    ∙ (ap (λ (ls : List OnfiseqLun). luns_left c.effect_of_input-effect.result (luns_of ls)) (same_first _ _ _ _ c.note_input.ensures.count c.note_input.ensures.luns)
    ∙ ap (λ (e : TargetEffect). luns_left e (target_of c.args.kept.now).luns) c.effect_of_input-effect.ensures))
