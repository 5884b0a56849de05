use Rattle.micro_asm.proofs.Ranges as ranges
use Rattle.micro_asm.proofs.laws.read_is_written_again.Goals as goal

pub returns : goal.returns
returns c = ranges.read_is_written_again
