-- Where the items of a capture are.
use Rattle.std.specs.Prelude.{⊤, ◌≤◌, List, [], ◌∷◌}
use Rattle.trace_faults.specs.Inside.{IsInside}
use Rattle.bus_capture.specs.declared.inferring.Stamped.{Stamped}
use Rattle.bus_capture.specs.declared.sampler.Observation.{Observation}
use Rattle.bus_capture.specs.declared.sampler.Observation.TheVariants as observation
use Rattle.bus_capture.specs.declared.sampler.Observed.{Observed}

-- each is on one of four targets, and of one of four LUNs
abbrev pub AreInside : List Stamped → Type 0
AreInside [] = ⊤
AreInside (s ∷ stamped) = IsInside s.item × AreInside stamped

-- the same of what is seen
abbrev pub IsSeenInside : Observation → Type 0
IsSeenInside (observation.Item i) = IsInside i
IsSeenInside (observation.Released n) = n ≤ 3

abbrev pub AreSeenInside : List Observed → Type 0
AreSeenInside [] = ⊤
AreSeenInside (o ∷ observed) = IsSeenInside o.observation × AreSeenInside observed
