use Rattle.std.proofs.Common.{◌≡◌, ◌∙◌, subst, sym, true}
use Rattle.seq_core.specs.Shows.{CoreView}
use Rattle.seq_core.specs.After.{is_held}
use Rattle.seq_core.specs.Calls.{IsCore}
use Rattle.seq_core.proofs.Cores.{empty_now, ended_now, held_now, ended_lets_go}
use Rattle.seq_core.proofs.sequencer.Core.answer_at_rest.Goals as goal

pub returns-in-Empty-clause-came : goal.returns-in-Empty-clause-came
returns-in-Empty-clause-came g c = empty_now c.args.self.now c.args.lun (subst IsCore c.self.view_is c.self.invariant) c.in-Empty.ensures.value

pub returns-in-Ended-clause-came : goal.returns-in-Ended-clause-came
returns-in-Ended-clause-came g c =
    ended_now c.args.self.now c.args.lun c.in-Ended.field-0 (subst IsCore c.self.view_is c.self.invariant) c.in-Ended.ensures.value

pub returns-in-Running-clause-came : goal.returns-in-Running-clause-came
returns-in-Running-clause-came g c =
    held_now c.args.self.now c.args.lun (subst IsCore c.self.view_is c.self.invariant) c.in-Running.ensures.value
    (subst (λ (x : CoreView). is_held x.holder c.args.lun ≡ true) c.self.view_is (sym c.is_held.ensures ∙ c.if-is_held.true))

pub returns-in-Ended-clause-bus : goal.returns-in-Ended-clause-bus
returns-in-Ended-clause-bus g c =
    ended_lets_go c.args.self.now c.args.lun c.in-Ended.field-0 (subst IsCore c.self.view_is c.self.invariant) c.in-Ended.ensures.value
