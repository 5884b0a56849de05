use Rattle.std.proofs.Common.{◌≡◌, length}
use Rattle.vcd_text.specs.Words.{words_left, GoesOn}
use Rattle.vcd_text.proofs.words.Words.skip_blanks.Given as goal

abbrev pub invariant-blanks : goal.invariant-blanks
invariant-blanks l = record {
  words : words_left l.self ≡ words_left l.initial.self;
  goes_on : GoesOn l.initial.self l.self;
}

abbrev pub decreases-blanks : goal.decreases-blanks
decreases-blanks l = length l.self.rest.now
