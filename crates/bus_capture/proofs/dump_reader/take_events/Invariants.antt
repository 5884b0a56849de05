use Rattle.std.proofs.Common.{◌≡◌, ◌+◌, ◌<◌, ◌^◌, List, length}
use Rattle.vcd_text.specs.Words.{Word, GoesOn}
use Rattle.vcd_text.specs.Shown.{told_before}
use Rattle.bus_capture.specs.declared.inferring.Stamped.{Stamped}
use Rattle.bus_capture.specs.Tracing.{traced, IsTracing}
use Rattle.bus_capture.proofs.dump_reader.take_events.Given as goal

abbrev pub invariant-events : goal.invariant-events
invariant-events g l = record {
  tracing : IsTracing l.tracer;
  room : l.body.words.line + length l.body.words.rest.now < 2 ^ 64;
  goes_on : GoesOn l.initial.body.words l.body.words;
  same : (stamped : List Stamped) (more : List Word) → traced l.initial.tracer stamped (told_before l.widths l.initial.body more) ≡ traced l.tracer stamped (told_before l.widths l.body more);
}

abbrev pub decreases-events : goal.decreases-events
decreases-events g l = length l.body.words.rest.now
