use Rattle.micro_claims.proofs.Numbered.{reasons_are_numbered}
use Rattle.micro_claims.proofs.laws.reasons_are_numbered.Goals as goal

pub returns : goal.returns
returns c = reasons_are_numbered
