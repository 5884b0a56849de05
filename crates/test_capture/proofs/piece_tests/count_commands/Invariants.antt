use Rattle.bus_capture.specs.Inside.{AreInside}
use Rattle.bus_capture.specs.Tracing.{IsCapturing}
use Rattle.test_capture.proofs.piece_tests.count_commands.Given as goal

abbrev pub invariant-loop-number : goal.invariant-loop-number
invariant-loop-number g l = record {
  capturing : IsCapturing l.reader;
  inside : AreInside l.stamped.items;
}
