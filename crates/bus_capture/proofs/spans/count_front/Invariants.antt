use Rattle.std.proofs.Common.{◌≡◌, ◌≤◌, length, drop}
use Rattle.bus_capture.specs.Spans.{Keeps}
use Rattle.bus_capture.proofs.spans.count_front.Given as goal

abbrev pub invariant-rest : goal.invariant-rest
invariant-rest l = record {
  within : l.count ≤ length l.sources;
  rest : l.rest ≡ drop l.count l.sources;
  keeps : Keeps l.code l.sources l.rest;
}

abbrev pub decreases-rest : goal.decreases-rest
decreases-rest l = length l.rest
