use Rattle.std.proofs.Common.{◌≡◌, ◌+◌, ◌<◌, ◌^◌, length}
use Rattle.vcd_text.specs.Words.{words_left, lines_from, IsCut}
use Rattle.vcd_text.specs.Header.{header}
use Rattle.vcd_text.specs.Dumps.{reading_of}
use Rattle.vcd_text.proofs.reading.read_header.Given as goal

abbrev pub invariant-words : goal.invariant-words
invariant-words g l = record {
  read : reading_of l.reading (words_left l.words) ≡ header l.text;
  room : l.words.line + length l.words.rest.now < 2 ^ 64;
  lines : lines_from l.words.line l.words.rest.now ≡ lines_from 1 l.text;
  cut : IsCut l.text → IsCut l.words.rest.now;
}

abbrev pub decreases-words : goal.decreases-words
decreases-words g l = length l.words.rest.now
