use Rattle.onfi_cycle.proofs.Keeping.{facts_go_on}
use Rattle.onfi_cycle.proofs.laws.facts_go_on.Goals as goal

pub returns : goal.returns
returns c = facts_go_on
