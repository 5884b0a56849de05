use Rattle.onfi_cycle.proofs.Keeping.{own_cycles_keep}
use Rattle.onfi_cycle.proofs.laws.own_cycles_keep.Goals as goal

pub returns : goal.returns
returns c = own_cycles_keep
