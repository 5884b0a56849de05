use Rattle.trace_faults.proofs.Judged.{first_broken_is_first}
use Rattle.trace_faults.proofs.laws.first_broken_is_first.Goals as goal

pub returns : goal.returns
returns c = first_broken_is_first
