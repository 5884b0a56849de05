use Rattle.trace_faults.proofs.Judged.{faultless_are_legal}
use Rattle.trace_faults.proofs.laws.faultless_are_legal.Goals as goal

pub returns : goal.returns
returns c = faultless_are_legal
