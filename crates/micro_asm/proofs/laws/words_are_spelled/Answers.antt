use Rattle.micro_asm.proofs.Again as again
use Rattle.micro_asm.proofs.laws.words_are_spelled.Goals as goal

pub returns : goal.returns
returns c = again.words_are_spelled
