use Rattle.trace_faults.proofs.Shown.{taken_at_work}
use Rattle.trace_faults.proofs.laws.taken_at_work.Goals as goal

pub returns : goal.returns
returns c = taken_at_work
