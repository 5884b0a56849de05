use Rattle.onfi_cycle.proofs.Due.{readies_are_due}
use Rattle.onfi_cycle.proofs.readies.readies_are_due.Goals as goal

pub returns : goal.returns
returns c = readies_are_due
