use Rattle.onfiseq_live_c.proofs.Going.{readies_go_along}
use Rattle.onfiseq_live_c.proofs.laws.readies_go_along.Goals as goal

pub returns : goal.returns
returns c = readies_go_along
