use Rattle.micro_word.proofs.Loop.{IsSoFar}
use Rattle.micro_word.proofs.reading.read_words.Given as goal

abbrev pub invariant-loop-place : goal.invariant-loop-place
invariant-loop-place g l = IsSoFar l.header l.place l.rest l.bytes l.words.items
