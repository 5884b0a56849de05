use Rattle.trace_ops.proofs.Folds.{parts_are_folded}
use Rattle.trace_ops.proofs.laws.parts_are_folded.Goals as goal

pub returns : goal.returns
returns c g targets items is k o there' = parts_are_folded g targets items is k o there'
