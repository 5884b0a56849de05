use Rattle.onfi_cycle.proofs.Keeping.{outputs_show}
use Rattle.onfi_cycle.proofs.laws.outputs_show.Goals as goal

pub returns : goal.returns
returns c = outputs_show
