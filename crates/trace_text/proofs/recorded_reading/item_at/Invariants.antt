use Rattle.std.proofs.Common.{◌≡◌, ◌+◌, ◌<◌, ◌^◌, length}
use Rattle.trace_text.specs.Recorded.{told, found_in}
use Rattle.trace_text.specs.RecordedLines.{told_left}
use Rattle.trace_text.proofs.recorded_reading.item_at.Given as goal

abbrev pub invariant-items : goal.invariant-items
invariant-items l = record {
  room : l.lines.line + length l.lines.rest.now < 2 ^ 64;
  same : found_in l.left (told_left l.lines) ≡ found_in l.number (told l.fn.profile l.text);
}

abbrev pub decreases-items : goal.decreases-items
decreases-items l = length l.lines.rest.now
