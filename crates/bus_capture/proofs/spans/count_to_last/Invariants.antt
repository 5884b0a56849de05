use Rattle.std.proofs.Common.{◌≡◌, ◌≤◌, length, take}
use Rattle.bus_capture.specs.Spans.{Keeps}
use Rattle.bus_capture.proofs.spans.count_to_last.Given as goal

abbrev pub invariant-rest : goal.invariant-rest
invariant-rest l = record {
  within : length l.rest ≤ length l.sources;
  front : l.rest ≡ take (length l.rest) l.sources;
  keeps : Keeps l.code l.sources l.rest;
}

abbrev pub decreases-rest : goal.decreases-rest
decreases-rest l = length l.rest
