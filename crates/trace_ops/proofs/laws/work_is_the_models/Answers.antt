use Rattle.trace_ops.proofs.Works.{told_all}
use Rattle.trace_ops.proofs.laws.work_is_the_models.Goals as goal

pub returns : goal.returns
returns c g targets items is = (told_all g targets items is).at_work
