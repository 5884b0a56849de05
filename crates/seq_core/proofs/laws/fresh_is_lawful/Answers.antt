use Rattle.seq_core.proofs.Main.{fresh_is_lawful}
use Rattle.seq_core.proofs.laws.fresh_is_lawful.Goals as goal

pub returns : goal.returns
returns c = fresh_is_lawful
