use Rattle.seq_core.proofs.Main.{headline}
use Rattle.seq_core.proofs.laws.headline.Goals as goal

pub returns : goal.returns
returns c = headline
