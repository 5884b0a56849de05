use Rattle.micro_program.proofs.Lengths.{lines_are_few}
use Rattle.micro_program.proofs.laws.lines_are_few.Goals as goal

pub returns : goal.returns
returns c = lines_are_few
