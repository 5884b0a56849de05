use Rattle.std.proofs.Common.{◌≡◌, ◌+◌, ◌<◌, ◌^◌, length}
use Rattle.trace_text.specs.Recorded.{recorded_items, gathering}
use Rattle.trace_text.specs.RecordedLines.{told_left}
use Rattle.trace_text.proofs.timed_reading.parse_timed.Given as goal

abbrev pub invariant-items : goal.invariant-items
invariant-items g l = record {
  room : l.lines.line + length l.lines.rest.now < 2 ^ 64;
  same : gathering l.items.items (told_left l.lines) ≡ recorded_items l.fn.profile l.text;
}

abbrev pub decreases-items : goal.decreases-items
decreases-items g l = length l.lines.rest.now
