use Rattle.seq_core.proofs.Main.{events_go_well}
use Rattle.seq_core.proofs.laws.events_go_well.Goals as goal

pub returns : goal.returns
returns c = events_go_well
