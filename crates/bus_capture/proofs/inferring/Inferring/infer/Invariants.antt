use Rattle.std.proofs.Common.{◌≡◌, ◌≤◌, List, ◌++◌, length, drop}
use Rattle.bus_capture.specs.declared.sampler.Observed.{Observed}
use Rattle.bus_capture.specs.Inside.{AreInside, AreSeenInside}
use Rattle.bus_capture.specs.Tracing.{MayFollow, inferred_on}
use Rattle.bus_capture.proofs.inferring.Inferring.infer.Given as goal

abbrev pub invariant-rest : goal.invariant-rest
invariant-rest g l = record {
  within : l.count ≤ length l.observed;
  rest : l.rest ≡ drop l.count l.observed;
  taken : (more : List Observed) → MayFollow l.is_last more → inferred_on l.fn.self l.fn.stamped.items (l.observed ++ more) ≡ inferred_on l.self l.stamped.items (l.rest ++ more);
  inside : AreSeenInside l.observed → AreInside l.fn.stamped.items → AreInside l.stamped.items;
}

abbrev pub decreases-rest : goal.decreases-rest
decreases-rest g l = length l.rest
