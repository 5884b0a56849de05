use Rattle.trace_ops.proofs.Questions.{questions_are_for_work}
use Rattle.trace_ops.proofs.laws.questions_are_for_work.Goals as goal

pub returns : goal.returns
returns c g targets items ce is k q there' first' = questions_are_for_work g targets items ce is k q there' first'
