use Rattle.onfi_cycle.proofs.Keeping.{service_begins}
use Rattle.onfi_cycle.proofs.laws.service_begins.Goals as goal

pub returns : goal.returns
returns c = service_begins
