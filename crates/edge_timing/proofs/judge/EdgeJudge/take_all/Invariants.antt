use Rattle.std.proofs.Common.{◌≡◌, ◌++◌, drop, ◌||◌}
use Rattle.edge_timing.specs.Judged.{shorts, is_any}
use Rattle.edge_timing.proofs.judge.EdgeJudge.take_all.Given as goal

abbrev pub invariant-loop-distance : goal.invariant-loop-distance
invariant-loop-distance g l = record {
  ruler : l.self.ruler ≡ l.initial.self.ruler;
  told : l.self.told.items ++ shorts l.initial.self.ruler (drop l.distance-index l.distances) ≡ l.initial.self.told.items ++ shorts l.initial.self.ruler l.distances;
  has : (l.self.has_judged || is_any (drop l.distance-index l.distances)) ≡ (l.initial.self.has_judged || is_any l.distances);
}
