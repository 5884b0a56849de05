use Rattle.std.proofs.Common.{◌+◌, refl, ap}
use Rattle.vcd_text.specs.Shown.{shown_next}
use Rattle.vcd_text.proofs.Digits.{timed_told, timed_moves}
use Rattle.vcd_text.proofs.body.Body.read_time.Goals as goal

pub returns-clause-told : goal.returns-clause-told
returns-clause-told c = λ widths later.
    timed_told widths c.args.self.now (record c.args.self.now {
      words = record { line = c.args.self.now.words.line + 1; rest = c.in_ok-timed.timed.rest };
      time = c.in_ok-timed.timed.time;
      line = c.args.self.now.words.line + 1;
    }) c.in_ok-timed.timed later c.in_ok-timed.ensures c.requires.anything c.if-timed-self.false
    (ap (λ n. record { time = c.in_ok-timed.timed.time; next = shown_next n }) c.requires.anything) refl refl

pub returns-clause-moves : goal.returns-clause-moves
returns-clause-moves c =
    timed_moves c.args.self.now.words (record { line = c.args.self.now.words.line + 1; rest = c.in_ok-timed.timed.rest }) c.in_ok-timed.timed c.in_ok-timed.ensures refl refl
