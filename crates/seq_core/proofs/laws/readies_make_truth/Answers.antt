use Rattle.seq_core.proofs.Alone.{readies_make_truth}
use Rattle.seq_core.proofs.laws.readies_make_truth.Goals as goal

pub returns : goal.returns
returns c = readies_make_truth
