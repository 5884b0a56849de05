use Rattle.word_file.proofs.Read.{words_are_read}
use Rattle.word_file.proofs.laws.words_are_read.Goals as goal

pub returns : goal.returns
returns c = words_are_read
