use Rattle.std.proofs.Common.{◌∙◌, sym, ap}
use Rattle.seq_live.specs.Kept.{LiveView}
use Rattle.seq_live.proofs.Shown.{next_burst, few_done}
use Rattle.seq_live.proofs.Faults.{none_at_rest, none_left}
use Rattle.seq_live.proofs.live.Live.next.Goals as goal

pub returns-in-None-clause-some : goal.returns-in-None-clause-some
returns-in-None-clause-some g c =
    next_burst c.args.self.now c.in_ok-step.step c.due_at.result.bursts.items c.burst_of.result (sym (ap (λ (v : LiveView). v.going) c.self.view_is) ∙ c.in_ok-step.was) c.in-None.ensures.may c.due_at.ensures.bursts c.burst_of.ensures.value

pub returns-in-None-clause-few : goal.returns-in-None-clause-few
returns-in-None-clause-few g c = few_done c.args.self.now c.in_ok-step.step c.burst_of.result (sym (ap (λ (v : LiveView). v.going) c.self.view_is) ∙ c.in_ok-step.was) c.burst_of.ensures.few

pub returns-in-Some-clause-none : goal.returns-in-Some-clause-none
returns-in-Some-clause-none g c = none_at_rest c.args.self.now c.in_ok-step.step (sym (ap (λ (v : LiveView). v.going) c.self.view_is) ∙ c.in_ok-step.was) c.in-Some.ensures.rest

pub returns-in-None-clause-none : goal.returns-in-None-clause-none
returns-in-None-clause-none g c = none_left c.args.self.now c.in_ok-step.step c.due_at.result.bursts.items c.burst_of.result (sym (ap (λ (v : LiveView). v.going) c.self.view_is) ∙ c.in_ok-step.was) c.due_at.ensures.bursts c.burst_of.ensures.value
