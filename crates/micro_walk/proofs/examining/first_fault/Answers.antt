use Rattle.std.proofs.Common.{◌∙◌, sym}
use Rattle.micro_walk.proofs.Walking.{walk_goes_on}
use Rattle.micro_walk.proofs.examining.first_fault.Goals as goal

pub loop-place-preserved : goal.loop-place-preserved
loop-place-preserved c =
    walk_goes_on c.args.geometry.now c.args.bounds c.loop-place.place c.loop-place.known c.onward-known.result c.args.words.now _ _ c.loop-place-test.true c.loop-place.invariant (sym c.reason_at.ensures ∙ c.in_default.is) c.onward-known.ensures
