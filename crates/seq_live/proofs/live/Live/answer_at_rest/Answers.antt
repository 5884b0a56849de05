use Rattle.std.proofs.Common.{◌≡◌, ◌∙◌, subst, sym, true}
use Rattle.seq_core.specs.After.{is_held}
use Rattle.seq_live.specs.Kept.{LiveView}
use Rattle.seq_live.proofs.Lives.{empty_rest, ended_rest, held_rest, not_empty, not_ended, not_held}
use Rattle.seq_live.proofs.live.Live.answer_at_rest.Goals as goal

pub returns-in-Empty-clause-came : goal.returns-in-Empty-clause-came
returns-in-Empty-clause-came g c = empty_rest c.args.self.now c.args.lun c.in-Empty.ensures.value

pub returns-in-Ended-clause-came : goal.returns-in-Ended-clause-came
returns-in-Ended-clause-came g c = ended_rest c.args.self.now c.args.lun c.in-Ended.field-0 c.in-Ended.ensures.value

pub returns-in-Running-clause-came : goal.returns-in-Running-clause-came
returns-in-Running-clause-came g c =
    held_rest c.args.self.now c.args.lun c.in-Running.ensures.value
    (subst (λ (v : LiveView). is_held v.holder c.args.lun ≡ true) c.self.view_is (sym c.is_held.ensures ∙ c.if-is_held.true))

pub returns-in-Empty-clause-rest : goal.returns-in-Empty-clause-rest
returns-in-Empty-clause-rest g c = λ may. not_empty (c.in-Empty.ensures.value ∙ sym may.running)

pub returns-in-Ended-clause-rest : goal.returns-in-Ended-clause-rest
returns-in-Ended-clause-rest g c = λ may. not_ended (c.in-Ended.ensures.value ∙ sym may.running)

pub returns-in-Running-clause-rest : goal.returns-in-Running-clause-rest
returns-in-Running-clause-rest g c = λ may.
    not_held (is_held c.args.self.now.holder c.args.lun) (subst (λ (v : LiveView). is_held v.holder c.args.lun ≡ true) c.self.view_is (sym c.is_held.ensures ∙ c.if-is_held.true)) may.free
