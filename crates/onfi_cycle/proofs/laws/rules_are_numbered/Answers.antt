use Rattle.onfi_cycle.proofs.Numbered.{rules_are_numbered}
use Rattle.onfi_cycle.proofs.laws.rules_are_numbered.Goals as goal

pub returns : goal.returns
returns c = rules_are_numbered
