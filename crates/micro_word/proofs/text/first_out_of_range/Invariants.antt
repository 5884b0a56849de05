use Rattle.std.proofs.Common.{◌≡◌, length, drop}
use Rattle.micro_word.specs.Reading.{out_of_range}
use Rattle.micro_word.proofs.text.first_out_of_range.Given as goal

abbrev pub invariant-loop-place : goal.invariant-loop-place
invariant-loop-place l = out_of_range (length l.words) l.place (drop l.place l.words) ≡ out_of_range (length l.words) 0 l.words
