use Rattle.std.proofs.Common.{◌≡◌, ◌+◌, ◌<◌, ◌^◌, length}
use Rattle.trace_text.specs.Recorded.{told, first_fault}
use Rattle.trace_text.specs.RecordedLines.{told_left}
use Rattle.trace_text.proofs.recorded_reading.first_fault.Given as goal

abbrev pub invariant-items : goal.invariant-items
invariant-items l = record {
  room : l.lines.line + length l.lines.rest.now < 2 ^ 64;
  same : first_fault (told_left l.lines) ≡ first_fault (told l.fn.profile l.text);
}

abbrev pub decreases-items : goal.decreases-items
decreases-items l = length l.lines.rest.now
