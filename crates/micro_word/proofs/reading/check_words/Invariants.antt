use Rattle.std.proofs.Common.{List}
use Rattle.micro_word.specs.declared.word.Word.{Word}
use Rattle.micro_word.proofs.Loop.{IsSoFar}
use Rattle.micro_word.proofs.reading.check_words.Given as goal

abbrev pub invariant-loop-place : goal.invariant-loop-place
invariant-loop-place l = (front : List Word) × IsSoFar l.header l.place l.rest l.bytes front
