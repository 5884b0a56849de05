use Rattle.seq_core.proofs.Main.{holders_go_on}
use Rattle.seq_core.proofs.laws.holders_go_on.Goals as goal

pub returns : goal.returns
returns c = holders_go_on
