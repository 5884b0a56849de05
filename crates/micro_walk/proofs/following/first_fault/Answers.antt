use Rattle.std.proofs.Common.{◌∙◌, None, Option, sym, refl, ap, arith, get_or}
use Rattle.micro_word.specs.declared.word.Word.TheVariants.{End}
use Rattle.micro_claims.specs.declared.state.State.{State}
use Rattle.micro_walk.specs.Faults.{reason_at}
use Rattle.micro_walk.proofs.Ahead.{claim_got, got, follow_on, follow_stops}
use Rattle.micro_walk.proofs.following.first_fault.Goals as goal

pub loop-at-init : goal.loop-at-init
loop-at-init c = record { long = c.requires; so_far = refl }

pub returns-in-Some : goal.returns-in-Some
returns-in-Some c =
    follow_stops c.args.geometry.now c.args.bounds c.loop-at.at c.loop-at.known (get_or c.loop-at.known c.loop-at.at None) c.args.words.now _ _ c.in-Some.reason c.loop-at-test.true (claim_got c.loop-at.known c.loop-at.at) c.loop-at.invariant.so_far (ap (λ (o : Option State). reason_at c.args.geometry.now c.args.bounds o (get_or c.args.words.now c.loop-at.at (End 0))) (got c.loop-at.known c.loop-at.at c.index-known-at.result (let long = c.loop-at.invariant.long in let here = c.loop-at-test.true in omega (arith, long, here))) ∙ (sym c.reason_at.ensures ∙ c.in-Some.is))

pub loop-at-preserved : goal.loop-at-preserved
loop-at-preserved c =
    record {
      long = c.lead_from.ensures.length ∙ c.loop-at.invariant.long;
      so_far = follow_on c.args.geometry.now c.args.bounds c.loop-at.at c.loop-at.known c.lead_from.new.known c.args.words.now _ _ c.loop-at-test.true c.loop-at.invariant.so_far (ap (λ (o : Option State). reason_at c.args.geometry.now c.args.bounds o (get_or c.args.words.now c.loop-at.at (End 0))) (got c.loop-at.known c.loop-at.at c.index-known-at.result (let long = c.loop-at.invariant.long in let here = c.loop-at-test.true in omega (arith, long, here))) ∙ (sym c.reason_at.ensures ∙ c.in_default.is)) c.lead_from.ensures.value;
    }
