use Rattle.std.proofs.Common.{◌≡◌, ◌+◌, ◌≤◌, length}
use Rattle.trace_text.specs.RecordedLines.{told_left}
use Rattle.trace_text.proofs.recorded_lines.RecordedLines.next_item.Given as goal

abbrev pub invariant-lines : goal.invariant-lines
invariant-lines l = record {
  told : told_left l.self ≡ told_left l.initial.self;
  shorter : length l.self.rest.now ≤ length l.initial.self.rest.now;
  room : l.self.line + length l.self.rest.now ≤ l.initial.self.line + length l.initial.self.rest.now;
}

abbrev pub decreases-lines : goal.decreases-lines
decreases-lines l = length l.self.rest.now
