use Rattle.std.proofs.Common.{◌+◌, List, length, sym, ap, subst, ◌∙◌, arith}
use Rattle.trace_data.specs.Data.{Works}
use Rattle.trace_data.proofs.Steps.{HaveGone, one_more, all_gone, set_length}
use Rattle.trace_data.proofs.replaying.go_on_all.Goals as goal

pub loop-place-preserved : goal.loop-place-preserved
loop-place-preserved c =
    let was = c.in_ok-go_on_in.ensures in
    let place = c.loop-place.place in (
      ap (λ (all : List Works). length all) was.2 ∙ (set_length _ place _ ∙ c.loop-place.invariant.0),
      λ g n past f count number are.
          subst (HaveGone g past c.args.item (place + 1)) (sym was.2)
          (one_more g past c.args.item place (place + 1) c.args.number c.effect_at.result was.0 c.loop-place.works (c.loop-place.invariant.1 g n past f count number are) was.1
          (c.effect_at.ensures g n past f (omega (arith, c.loop-place-test.true, count))) number (omega arith)),
    )

pub returns-clause-works : goal.returns-clause-works
returns-clause-works c = λ g n past f count number are.
    all_gone g past c.args.item c.loop-place.place c.loop-place.works (c.loop-place.invariant.1 g n past f count number are) (omega (arith, c.loop-place-test.false, c.loop-place.invariant.0))
