use Rattle.micro_program.proofs.Costs.{buffer_len}
use Rattle.micro_program.proofs.laws.buffer_keeps_length.Goals as goal

pub returns : goal.returns
returns c = buffer_len
