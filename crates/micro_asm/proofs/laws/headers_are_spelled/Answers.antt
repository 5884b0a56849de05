use Rattle.micro_asm.proofs.Again as again
use Rattle.micro_asm.proofs.laws.headers_are_spelled.Goals as goal

pub returns : goal.returns
returns c = again.headers_are_spelled
