use Rattle.std.proofs.Common.{length}
use Rattle.std.specs.Prelude.{Ok}
use Rattle.vcd_text.specs.Words.{GoesOn}
use Rattle.vcd_text.specs.Shown.{IsProgress}
use Rattle.vcd_text.proofs.Going.{left_to_read, IsShorter}
use Rattle.vcd_text.proofs.body.Body.next_by_words.Given as goal

abbrev pub invariant-words : goal.invariant-words
invariant-words g l = record {
  told : IsProgress l.widths l.initial.self (Ok l.progress) l.self;
  goes_on : GoesOn l.initial.self.words l.self.words;
  shorter : IsShorter l.progress (length l.initial.self.words.rest.now) (length l.self.words.rest.now);
}

abbrev pub decreases-words : goal.decreases-words
decreases-words g l = left_to_read l.progress (length l.self.words.rest.now)
