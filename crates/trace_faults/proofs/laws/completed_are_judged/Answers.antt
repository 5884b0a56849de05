use Rattle.trace_faults.proofs.Shown.{completed_are_judged}
use Rattle.trace_faults.proofs.laws.completed_are_judged.Goals as goal

pub returns : goal.returns
returns c = completed_are_judged
