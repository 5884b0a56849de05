use Rattle.bus_capture.specs.Inside.{AreInside}
use Rattle.bus_capture.specs.Tracing.{IsCapturing}
use Rattle.test_capture.proofs.piece_tests.read_in_pieces.Given as goal

abbrev pub invariant-loop-piece : goal.invariant-loop-piece
invariant-loop-piece l = record {
  capturing : IsCapturing l.reader;
  inside : AreInside l.stamped.items;
}
