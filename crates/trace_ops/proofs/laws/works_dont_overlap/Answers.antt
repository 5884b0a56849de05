use Rattle.trace_ops.proofs.Works.{told_all}
use Rattle.trace_ops.proofs.laws.works_dont_overlap.Goals as goal

pub returns : goal.returns
returns c g targets items is = (told_all g targets items is).apart
