use Rattle.onfi_cycle.proofs.Keeping.{readies_change}
use Rattle.onfi_cycle.proofs.laws.readies_change.Goals as goal

pub returns : goal.returns
returns c = readies_change
