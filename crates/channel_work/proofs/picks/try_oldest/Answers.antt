use Rattle.std.proofs.Common.{length}
use Rattle.channel_work.proofs.Picking.{given_at, trying_more, tried_upto}
use Rattle.channel_work.proofs.picks.try_oldest.Goals as goal

pub returns-in-Given-clause-tried : goal.returns-in-Given-clause-tried
returns-in-Given-clause-tried c =
    let f = c.in-Some.ensures.some in
    given_at c.args.core.now c.args.places.now c.args.seat c.loop-place.back c.loop-place.fronts c.loop-place.from c.in-Some.place c.in-Given.lease c.loop-place.invariant f (c.in-Given.ensures f.job f.oldest.here)

pub loop-place-preserved : goal.loop-place-preserved
loop-place-preserved c =
    let f = c.in-Some.ensures.some in
    trying_more c.args.core.now c.args.places.now c.args.seat c.loop-place.back c.in-Passed.again c.loop-place.fronts c.find_oldest.new.fronts c.loop-place.from c.in-Some.place c.loop-place.invariant c.find_oldest.ensures.backlog f (c.in-Passed.ensures f.job f.oldest.here)

pub returns-clause-tried : goal.returns-clause-tried
returns-clause-tried c =
    let i = c.loop-place.invariant in
    (i.same, tried_upto c.args.core.now c.args.places.now c.loop-place.from (length c.args.places.now) c.args.seat.calls c.loop-place.back.calls i.tried c.in_default.ensures.none)
