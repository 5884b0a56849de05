use Rattle.micro_word.proofs.Numbered.{word_faults_are_numbered}
use Rattle.micro_word.proofs.laws.word_faults_are_numbered.Goals as goal

pub returns : goal.returns
returns c = word_faults_are_numbered
