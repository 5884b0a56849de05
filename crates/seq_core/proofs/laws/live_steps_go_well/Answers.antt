use Rattle.seq_core.proofs.Events.{live_steps_go_well}
use Rattle.seq_core.proofs.laws.live_steps_go_well.Goals as goal

pub returns : goal.returns
returns c = live_steps_go_well
