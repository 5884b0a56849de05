use Rattle.micro_walk.proofs.StateLaws.{laws}
use Rattle.micro_walk.proofs.laws.states_meet_laws.Goals as goal

pub returns : goal.returns
returns c = laws
