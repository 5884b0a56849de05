use Rattle.std.proofs.Common.{◌≡◌, length}
use Rattle.micro_asm.specs.Line.{fields}
use Rattle.vendor_file.specs.Lines.{steps_from}
use Rattle.vendor_file.specs.Reading.{written}
use Rattle.vendor_file.proofs.reading.push_words.Given as goal

abbrev pub invariant-words : goal.invariant-words
invariant-words g l = steps_from (written l.steps.items l.last) (fields l.rest) ≡ steps_from (written l.initial.steps.items l.fn.first) (fields l.fn.text)

abbrev pub decreases-words : goal.decreases-words
decreases-words g l = length (fields l.rest)
