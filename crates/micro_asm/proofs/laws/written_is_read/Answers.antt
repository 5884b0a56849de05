use Rattle.micro_asm.proofs.Back as back
use Rattle.micro_asm.proofs.laws.written_is_read.Goals as goal

pub returns : goal.returns
returns c = back.written_is_read
