use Rattle.std.proofs.Common.{◌+◌}
use Rattle.channel_work.specs.Counts.{HaveCounted}
use Rattle.channel_work.proofs.tally.count_on_target.Given as goal

abbrev pub invariant-loop-lun : goal.invariant-loop-lun
invariant-loop-lun l = HaveCounted l.geometry l.item l.fn.counts l.counts l.first (l.first + l.lun)
