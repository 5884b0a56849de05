use Rattle.micro_asm.proofs.Again as again
use Rattle.micro_asm.proofs.laws.labels_are_spelled.Goals as goal

pub returns : goal.returns
returns c = again.labels_are_spelled
