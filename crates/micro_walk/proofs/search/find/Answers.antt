use Rattle.std.proofs.Common.{◌∙◌, Option, List, ap}
use Rattle.std.proofs.lemmas.Option.{slice_get-get_or}
use Rattle.micro_claims.specs.declared.state.State.{State}
use Rattle.micro_walk.specs.Faults.{reached}
use Rattle.micro_walk.proofs.Searching.{no_word, first_left, step_done, stops, through}
use Rattle.micro_walk.proofs.search.find.Goals as goal

pub loop-walked-init : goal.loop-walked-init
loop-walked-init c =
    record {
      left = first_left c.args.geometry.now c.args.bounds c.args.words.now c.args.most c.args.claims.now c.reach.new.known c.first.result c.first.ensures (c.reach.ensures.value ∙ ap (λ (cs : List (Option State)). reached cs 0 c.first.result) c.forget.ensures.value);
      long = c.reach.ensures.length ∙ c.forget.ensures.length;
    }

pub loop-walked-preserved : goal.loop-walked-preserved
loop-walked-preserved c =
    record {
      left = step_done c.args.geometry.now c.args.bounds c.args.words.now c.args.most c.loop-walked.walked _ _ _ c.step.result _ _ c.loop-walked-test.true (slice_get-get_or c.args.words.now c.loop-walked.walk.at _ c.if-at-words.false) c.step.ensures.stepped c.loop-walked.invariant.left;
      long = c.step.ensures.length ∙ c.loop-walked.invariant.long;
    }

pub returns-then-at-words-clause-through : goal.returns-then-at-words-clause-through
returns-then-at-words-clause-through c =
    through c.args.geometry.now c.args.bounds c.args.words.now c.args.most c.loop-walked.walked _ _ c.loop-walked-test.true (no_word c.args.words.now c.loop-walked.walk.at c.if-at-words.true) c.loop-walked.invariant.left

pub returns-then-not-step-clause-through : goal.returns-then-not-step-clause-through
returns-then-not-step-clause-through c =
    stops c.args.geometry.now c.args.bounds c.args.words.now c.args.most c.loop-walked.walked _ _ _ c.step.result _ _ _ c.loop-walked-test.true (slice_get-get_or c.args.words.now c.loop-walked.walk.at _ c.if-at-words.false) c.step.ensures.stepped c.if-not-step.true c.loop-walked.invariant.left
