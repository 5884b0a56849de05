use Rattle.std.proofs.Common.{◌∙◌, Option, refl, ap, is_some, length}
use Rattle.seq_live.specs.declared.live.StepGoingOn.{StepGoingOn}
use Rattle.seq_live.proofs.Driven.{done_for}
use Rattle.seq_live.proofs.Shown.{stepped_next, goes_on_now, no_room}
use Rattle.seq_live.proofs.pins.step_due.Goals as goal

pub returns-then-count-taken-clause-err : goal.returns-then-count-taken-clause-err
returns-then-count-taken-clause-err g c =
    (no_room c.args.live.now c.args.lun (length c.args.taken.now) c.taken_by-count.result c.due_at-due.result.word c.requires c.due_at-due.ensures.word c.taken_by-count.ensures c.if-count-taken.true, refl, refl)

pub returns-then-is_some-clause-err : goal.returns-then-is_some-clause-err
returns-then-is_some-clause-err g c =
    (goes_on_now c.args.live.now c.args.lun (length c.args.taken.now) c.is_some.result (c.is_some.ensures ∙ ap (λ (o : Option StepGoingOn). is_some o) c.going.ensures.value) c.if-is_some.true, refl, refl)

pub returns-clause-ok : goal.returns-clause-ok
returns-clause-ok g c =
    stepped_next c.args.live.now c.step_word.new.self c.args.lun c.due_at-due.result.word c.do_bursts.new.taken c.split_at_mut-taken.result.1.now c.due_at-due.result.bursts.items c.step_word.result _ _ c.going.ensures.live c.requires c.due_at-due.ensures.word c.due_at-due.ensures.range c.due_at-due.ensures.bursts
    (c.do_bursts.auto.taken ∙ (c.split_at_mut-taken.ensures.front_len ∙ c.taken_by-count.ensures)) (done_for c.args.live.now c.args.lun c.as_slice.result.now c.due_at-due.result.bursts.items c.do_bursts.new.taken (g.P.Pins.driven c.args.pins.now) (g.P.Pins.driven c.do_bursts.new.pins) c.as_slice.ensures.value c.do_bursts.ensures) c.step_word.ensures.run
