use Rattle.die_model.proofs.Showing.{dies_show}
use Rattle.die_model.proofs.laws.dies_show.Goals as goal

pub returns : goal.returns
returns c = dies_show
