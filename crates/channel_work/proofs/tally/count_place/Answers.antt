use Rattle.std.proofs.Common.{arith}
use Rattle.channel_work.proofs.Recounting.{counts_few, item_counted}
use Rattle.channel_work.proofs.tally.count_place.Goals as goal

pub count_on_target-requires : goal.count_on_target-requires
count_on_target-requires c =
    counts_few c.args.geometry.now c.args.trace.now c.args.counts.now c.args.place c.requires.counts c.requires.place (omega arith)

pub returns : goal.returns
returns c =
    item_counted c.args.geometry.now c.args.trace.now c.args.place _ c.args.counts.now c.count_on_target.new.counts c.requires.place c.requires.counts c.count_on_target.ensures
