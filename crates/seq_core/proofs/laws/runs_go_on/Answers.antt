use Rattle.seq_core.proofs.Beginnings.{runs_go_on}
use Rattle.seq_core.proofs.laws.runs_go_on.Goals as goal

pub returns : goal.returns
returns c = runs_go_on
