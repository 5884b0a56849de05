use Rattle.channel_work.proofs.Recounting.{repeated_too}
use Rattle.channel_work.proofs.tally.count_luns.Goals as goal

pub loop-place-preserved : goal.loop-place-preserved
loop-place-preserved c =
    let long = c.count_place.array_long in
    record {
      long = long;
      inside = c.skip_repeated-place.ensures.inside;
      counts = repeated_too c.geometry-geometry.result c.trace-trace.result.now c.loop-place.place c.skip_repeated-place.result c.count_place.new.counts c.skip_repeated-place.ensures.behind c.skip_repeated-place.ensures.inside long c.skip_repeated-place.ensures.repeated c.count_place.ensures;
    }
