use Rattle.seq_live.proofs.Turns.{none_had}
use Rattle.seq_live.proofs.run.Turns.new.Goals as goal

pub returns : goal.returns
returns c = none_had 16
