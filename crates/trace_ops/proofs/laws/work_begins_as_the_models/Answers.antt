use Rattle.trace_ops.proofs.Works.{told_all}
use Rattle.trace_ops.proofs.laws.work_begins_as_the_models.Goals as goal

pub returns : goal.returns
returns c g targets items is = (told_all g targets items is).begin
