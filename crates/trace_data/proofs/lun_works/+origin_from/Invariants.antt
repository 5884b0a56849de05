use Rattle.std.proofs.Common.{length}
use Rattle.trace_data.proofs.lun_works.+origin_from.Given as goal

abbrev pub decreases-origin_from : goal.decreases-origin_from
decreases-origin_from l = length l.works.now
