use Rattle.seq_live.proofs.Events.{live_events_go_well}
use Rattle.seq_live.proofs.laws.live_events_go_well.Goals as goal

pub returns : goal.returns
returns c = live_events_go_well
