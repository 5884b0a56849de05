use Rattle.std.proofs.Common.{ℕ, ◌+◌, sym, subst, arith}
use Rattle.channel_work.proofs.Waiting.{IsFinding, found_here, found_elsewhere, found_first, found_none}
use Rattle.channel_work.proofs.backlog.find_oldest.Goals.{then-from-place+then-place-oldest, else-from-place, else-from-place-via-then-from-place+else-place-oldest, else-from-place-via-else-from-place}
use Rattle.channel_work.proofs.backlog.find_oldest.Goals as goal

pub loop-at-preserved : goal.loop-at-preserved
loop-at-preserved c =
    let P = c.args.places.now in
    let F = c.args.fronts.now in
    let i = c.loop-at.invariant in
    let a = c.advance-place.ensures in
    elim c.if-from-place.branch [
      | then-from-place+then-place-oldest w ↦
          subst (λ (n : ℕ). IsFinding P F c.args.from c.advance-place.new.fronts n (c.loop-at.at + 1)) (sym w.oldest-is) (found_here P F c.loop-at.fronts c.advance-place.new.fronts c.args.from c.loop-at.oldest c.loop-at.at c.advance-place.result i a w.if-from-place.true w.if-place-oldest.true)
      | else-from-place w ↦
          subst (λ (n : ℕ). IsFinding P F c.args.from c.advance-place.new.fronts n (c.loop-at.at + 1)) (sym w.oldest-is) (found_elsewhere P F c.loop-at.fronts c.advance-place.new.fronts c.args.from c.loop-at.oldest c.loop-at.at c.advance-place.result i a
          (elim w.else-from-place.branch [
            | else-from-place-via-then-from-place+else-place-oldest w' ↦ λ lo hi. let no = w'.if-place-oldest.false in omega (arith, hi, no)
            | else-from-place-via-else-from-place w' ↦ λ lo hi. let no = w'.if-from-place.false in omega (arith, lo, no)
          ]))
    ]

pub returns-then-oldest-places-clause-some : goal.returns-then-oldest-places-clause-some
returns-then-oldest-places-clause-some c =
    found_first c.args.places.now c.args.fronts.now c.loop-at.fronts c.args.from c.loop-at.oldest c.loop-at.at c.loop-at.invariant (omega (arith, c.loop-at-test.false, c.loop-at.auto.at-end)) c.if-oldest-places.true

pub returns-else-oldest-places-clause-none : goal.returns-else-oldest-places-clause-none
returns-else-oldest-places-clause-none c = λ n x lo hi o.
    let no = c.if-oldest-places.false in
    found_none c.args.places.now c.args.fronts.now c.loop-at.fronts c.args.from c.loop-at.oldest c.loop-at.at c.loop-at.invariant (omega (arith, c.loop-at-test.false, c.loop-at.auto.at-end)) n x lo (omega (arith, hi, no)) o
