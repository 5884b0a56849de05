use Rattle.onfi_cycle.proofs.Others.{others_keep, targets_keep}
use Rattle.onfi_cycle.proofs.laws.luns_keep_apart.Goals as goal

pub returns : goal.returns
returns c = record { others = others_keep; targets = targets_keep }
