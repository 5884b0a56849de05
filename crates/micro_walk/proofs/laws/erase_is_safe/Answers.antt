use Rattle.micro_walk.proofs.Erase.{erase_is_safe}
use Rattle.micro_walk.proofs.laws.erase_is_safe.Goals as goal

pub returns : goal.returns
returns c = erase_is_safe
