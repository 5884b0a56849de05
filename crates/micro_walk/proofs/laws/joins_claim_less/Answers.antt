use Rattle.micro_walk.proofs.Joining.{joins_claim_less}
use Rattle.micro_walk.proofs.laws.joins_claim_less.Goals as goal

pub returns : goal.returns
returns c = joins_claim_less
