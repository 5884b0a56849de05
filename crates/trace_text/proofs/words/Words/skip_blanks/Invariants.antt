use Rattle.std.proofs.Common.{◌≡◌, length}
use Rattle.trace_text.specs.RecordedLines.{words_left}
use Rattle.trace_text.proofs.words.Words.skip_blanks.Given as goal

abbrev pub invariant-blanks : goal.invariant-blanks
invariant-blanks l = words_left l.self ≡ words_left l.initial.self

abbrev pub decreases-blanks : goal.decreases-blanks
decreases-blanks l = length l.self.rest.now
