use Rattle.std.proofs.Common.{◌∙◌, sym, ap, subst, None, refl}
use Rattle.seq_live.specs.Kept.{LiveView, IsLive}
use Rattle.seq_live.specs.Calls.{HasFinished}
use Rattle.seq_live.proofs.Shown.{finished_at_rest, finished, burst_left}
use Rattle.seq_live.proofs.Faults.{none_at_rest}
use Rattle.seq_live.proofs.live.Live.finish.Goals as goal

pub returns-in-Some-answer_at_rest-clause-ok : goal.returns-in-Some-answer_at_rest-clause-ok
returns-in-Some-answer_at_rest-clause-ok g c =
    let done = finished_at_rest c.args.self.now c.args.taken.now c.in-Some-answer_at_rest.answer c.in-Some.step (sym (ap (λ (v : LiveView). v.going) c.self.view_is) ∙ c.in-Some.is) c.in-Some-answer_at_rest.ensures.rest (c.in-Some-answer_at_rest.ensures.came c.args.taken.now) in
    subst (λ (v : LiveView). HasFinished c.args.self.now c.args.taken.now c.in-Some-answer_at_rest.answer (record v { going = None })) (sym c.self.view_is) done

pub returns-in-Some-answer_at_rest-clause-all : goal.returns-in-Some-answer_at_rest-clause-all
returns-in-Some-answer_at_rest-clause-all g c = none_at_rest c.args.self.now c.in-Some.step (sym (ap (λ (v : LiveView). v.going) c.self.view_is) ∙ c.in-Some.is) c.in-Some-answer_at_rest.ensures.rest

pub returns-then-is_some-clause-err : goal.returns-then-is_some-clause-err
returns-then-is_some-clause-err g c =
    (burst_left c.args.self.now c.in-Some.step c.due_at-due.result.bursts.items c.burst_of.result c.is_some.result (sym (ap (λ (v : LiveView). v.going) c.self.view_is) ∙ c.in-Some.is) c.in_default-answer_at_rest.ensures.may c.due_at-due.ensures.bursts c.burst_of.ensures.value c.is_some.ensures c.if-is_some.true, refl)

pub returns-clause-ok : goal.returns-clause-ok
returns-clause-ok g c =
    finished c.args.self.now c.step_word.new.self c.args.taken.now c.step_word.result c.in-Some.step c.due_at-due.result.word (subst IsLive c.self.view_is c.self.invariant) (sym (ap (λ (v : LiveView). v.going) c.self.view_is) ∙ c.in-Some.is) c.in_default-answer_at_rest.ensures.may c.due_at-due.ensures.word c.step_word.ensures.run c.step_word.ensures.over
