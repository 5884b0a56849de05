use Rattle.die_model.proofs.Standing.{dies_go_on}
use Rattle.die_model.proofs.laws.dies_go_on.Goals as goal

pub returns : goal.returns
returns c = dies_go_on
