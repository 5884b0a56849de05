use Rattle.seq_core.proofs.Beginnings.{beginnings_go_well}
use Rattle.seq_core.proofs.laws.beginnings_go_well.Goals as goal

pub returns : goal.returns
returns c = beginnings_go_well
