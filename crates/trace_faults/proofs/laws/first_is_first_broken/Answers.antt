use Rattle.trace_faults.proofs.Judged.{first_is_first_broken}
use Rattle.trace_faults.proofs.laws.first_is_first_broken.Goals as goal

pub returns : goal.returns
returns c = first_is_first_broken
