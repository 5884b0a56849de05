use Rattle.seq_live.proofs.Models.{models_are_live}
use Rattle.seq_live.proofs.laws.models_are_live.Goals as goal

pub returns : goal.returns
returns c = models_are_live
