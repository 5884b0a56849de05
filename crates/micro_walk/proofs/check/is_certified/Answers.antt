use Rattle.std.proofs.Common.{◌==◌, None, Option, length, sym, ap, ◌∙◌, arith, get_or}
use Rattle.micro_walk.proofs.Ahead.{got}
use Rattle.micro_word.specs.declared.word.Word.TheVariants.{End}
use Rattle.micro_claims.specs.declared.state.State.{State}
use Rattle.micro_claims.specs.Certificate.{reaches, holds, all_hold}
use Rattle.micro_claims.specs.State.{first_state}
use Rattle.micro_claims.specs.Order.{machine}
use Rattle.micro_walk.proofs.Checking.{check_goes_on, check_stops, last_false, none_of}
use Rattle.micro_walk.proofs.check.is_certified.Goals as goal
use Rattle.micro_walk.proofs.check.is_certified.Goals.{in-Some+else-not-word_holds, in_default}

pub returns-then-not-word_holds : goal.returns-then-not-word_holds
returns-then-not-word_holds c =
    last_false (length c.args.words.now == length c.args.claims.now) (reaches (machine c.args.geometry.now c.args.bounds) c.args.claims.now first_state 0) (all_hold (machine c.args.geometry.now c.args.bounds) c.args.words.now c.args.claims.now 0 c.args.words.now)
    (check_stops (machine c.args.geometry.now c.args.bounds) c.args.words.now c.args.claims.now c.loop-at.at _ (End 0) None c.if-words-claims.false c.loop-at-test.true c.loop-at.invariant
    (ap (λ (o : Option State). holds (machine c.args.geometry.now c.args.bounds) c.args.words.now c.args.claims.now c.loop-at.at o (get_or c.args.words.now c.loop-at.at (End 0))) ((got c.args.claims.now c.loop-at.at c.index-claims-at.result (let long = c.if-words-claims.false in let here = c.loop-at-test.true in omega (arith, long, here)) ∙ sym c.index-claims-at.is) ∙ c.in-Some.is) ∙ (sym c.word_holds.ensures ∙ c.if-not-word_holds.true)))

pub loop-at-preserved : goal.loop-at-preserved
loop-at-preserved c =
    elim c.match-claims-at.branch [
      | in-Some+else-not-word_holds w ↦ (
          check_goes_on (machine c.args.geometry.now c.args.bounds) c.args.words.now c.args.claims.now c.loop-at.at _ (End 0) None c.if-words-claims.false c.loop-at-test.true c.loop-at.invariant
          (ap (λ (o : Option State). holds (machine c.args.geometry.now c.args.bounds) c.args.words.now c.args.claims.now c.loop-at.at o (get_or c.args.words.now c.loop-at.at (End 0))) ((got c.args.claims.now c.loop-at.at c.index-claims-at.result (let long = c.if-words-claims.false in let here = c.loop-at-test.true in omega (arith, long, here)) ∙ sym c.index-claims-at.is) ∙ w.in-Some.is) ∙ (sym w.word_holds.ensures ∙ w.if-not-word_holds.false)))
      | in_default w ↦ (
          check_goes_on (machine c.args.geometry.now c.args.bounds) c.args.words.now c.args.claims.now c.loop-at.at _ (End 0) None c.if-words-claims.false c.loop-at-test.true c.loop-at.invariant
          (ap (λ (o : Option State). holds (machine c.args.geometry.now c.args.bounds) c.args.words.now c.args.claims.now c.loop-at.at o (get_or c.args.words.now c.loop-at.at (End 0))) ((got c.args.claims.now c.loop-at.at c.index-claims-at.result (let long = c.if-words-claims.false in let here = c.loop-at-test.true in omega (arith, long, here)) ∙ sym c.index-claims-at.is) ∙ none_of c.index-claims-at.result w.in_default.not-Some)))
    ]
