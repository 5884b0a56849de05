use Rattle.target_bus.proofs.Opened.{forgets_more, forgets_all}
use Rattle.std.proofs.Common.{◌+◌, arith}
use Rattle.target_bus.proofs.opening.forget_array_pages.Goals as goal

pub loop-place-preserved : goal.loop-place-preserved
loop-place-preserved g c = forgets_more c.args.dies.now c.loop-place.dies c.forget_in.new.dies c.loop-place.place (c.loop-place.place + 1) c.forget_in.ensures.0 c.loop-place.invariant c.forget_in.ensures.1 c.forget_in.ensures.2 (omega arith)

pub returns : goal.returns
returns g c = forgets_all c.args.dies.now c.loop-place.dies c.loop-place.place c.loop-place.invariant c.loop-place-test.false
