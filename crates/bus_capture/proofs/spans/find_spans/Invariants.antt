use Rattle.std.proofs.Common.{◌≡◌, length}
use Rattle.bus_capture.specs.Spans.{AreSpans}
use Rattle.bus_capture.proofs.spans.find_spans.Given as goal

abbrev pub invariant-loop-code : goal.invariant-loop-code
invariant-loop-code g l = record {
  spans : AreSpans l.sources 0 l.spans.items;
  count : length l.spans.items ≡ l.code;
}
