use Rattle.seq_live.proofs.Main.{calls_go_well}
use Rattle.seq_live.proofs.laws.calls_go_well.Goals as goal

pub returns : goal.returns
returns c = calls_go_well
