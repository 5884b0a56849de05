use Rattle.micro_walk.proofs.Erase.{erases_are_accepted}
use Rattle.micro_walk.proofs.laws.erases_are_accepted.Goals as goal

pub returns : goal.returns
returns c = erases_are_accepted
