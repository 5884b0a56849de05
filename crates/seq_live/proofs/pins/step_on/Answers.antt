use Rattle.std.proofs.Common.{◌∙◌, Option, refl, ap, is_some, [], length}
use Rattle.seq_live.specs.declared.live.StepGoingOn.{StepGoingOn}
use Rattle.seq_live.proofs.Shown.{stepped_at_rest, goes_on_now}
use Rattle.seq_live.proofs.pins.step_on.Goals as goal

pub returns-in-Some-clause-err : goal.returns-in-Some-clause-err
returns-in-Some-clause-err g c =
    (goes_on_now c.args.live.now c.args.lun (length c.args.taken.now) c.is_some.result (c.is_some.ensures ∙ ap (λ (o : Option StepGoingOn). is_some o) c.going.ensures.value) c.if-is_some.true, refl, refl)

pub returns-in-Some-2-clause-ok : goal.returns-in-Some-2-clause-ok
returns-in-Some-2-clause-ok g c = stepped_at_rest c.args.live.now c.args.lun c.args.taken.now c.in-Some.field-0 (g.P.Pins.driven c.args.pins.now) c.in-Some.ensures.rest (c.in-Some.ensures.came [])
