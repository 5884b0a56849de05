use Rattle.micro_claims.proofs.SafePrograms.{some_are_safe}
use Rattle.micro_claims.proofs.laws.some_are_safe.Goals as goal

pub returns : goal.returns
returns c = some_are_safe
