use Rattle.seq_core.proofs.Beginnings.{unloads_give_back}
use Rattle.seq_core.proofs.laws.unloads_give_back.Goals as goal

pub returns : goal.returns
returns c = unloads_give_back
