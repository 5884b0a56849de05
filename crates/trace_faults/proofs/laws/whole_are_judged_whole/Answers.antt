use Rattle.trace_faults.proofs.Wholes.{whole_are_judged_whole}
use Rattle.trace_faults.proofs.laws.whole_are_judged_whole.Goals as goal

pub returns : goal.returns
returns c = whole_are_judged_whole
