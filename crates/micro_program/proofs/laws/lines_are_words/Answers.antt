use Rattle.micro_program.proofs.Leading.{lines_are_words}
use Rattle.micro_program.proofs.laws.lines_are_words.Goals as goal

pub returns : goal.returns
returns c = lines_are_words
