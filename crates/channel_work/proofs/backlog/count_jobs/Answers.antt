use Rattle.std.proofs.Common.{arith}
use Rattle.channel_work.proofs.Waiting.{counted_more}
use Rattle.channel_work.proofs.backlog.count_jobs.Goals as goal

pub loop-place-preserved : goal.loop-place-preserved
loop-place-preserved c =
    let i = c.loop-place.invariant in
    let counted = i.0 in
    let below = i.1 in
    let one = c.count_job-count.ensures.value in
    let most = c.count_job-count.ensures.most in
    let more = counted_more c.args.places.now c.loop-place.place c.index-places-place.result c.loop-place-test.true c.index-places-place.is in
    (omega (arith, counted, one, more), omega (arith, below, most))
