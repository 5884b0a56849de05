use Rattle.micro_program.proofs.Acts.{walk_gives_acts}
use Rattle.micro_program.proofs.laws.walk_gives_acts.Goals as goal

pub returns : goal.returns
returns c = walk_gives_acts
