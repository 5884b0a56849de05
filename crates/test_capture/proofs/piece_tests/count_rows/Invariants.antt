use Rattle.bus_capture.specs.Inside.{AreInside}
use Rattle.bus_capture.specs.Tracing.{IsCapturing}
use Rattle.test_capture.proofs.piece_tests.count_rows.Given as goal

abbrev pub invariant-loop : goal.invariant-loop
invariant-loop g l = record {
  capturing : IsCapturing l.reader;
  inside : AreInside l.stamped.items;
}
