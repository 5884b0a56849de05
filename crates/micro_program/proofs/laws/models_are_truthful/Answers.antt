use Rattle.micro_program.proofs.Waiting.{models_are_truthful}
use Rattle.micro_program.proofs.laws.models_are_truthful.Goals as goal

pub returns : goal.returns
returns c = models_are_truthful
