use Rattle.trace_ops.proofs.Opening.{openings_of}
use Rattle.trace_ops.proofs.laws.operations_are_openers.Goals as goal

pub returns : goal.returns
returns c g targets items is = openings_of g targets items is
