use Rattle.std.proofs.Common.{◌≡◌, false, drop}
use Rattle.bus_capture.specs.Sampling.{with_change}
use Rattle.bus_capture.proofs.levels.Levels.change.Given as goal

abbrev pub invariant-loop-source : goal.invariant-loop-source
invariant-loop-source l = record {
  levels : with_change (drop l.source-index l.sources) l.code l.bits l.self.of ≡ with_change l.sources l.code l.bits l.initial.self.of;
  still : l.beside ≡ false → drop 16 l.self.of ≡ drop 16 l.initial.self.of;
}
