use Rattle.std.proofs.Common.{◌≡◌, false, List, ◌++◌, length}
use Rattle.bus_capture.specs.declared.sampler.Observed.{Observed}
use Rattle.bus_capture.specs.Inferring.{fails_within}
use Rattle.bus_capture.proofs.ahead.fails_ahead.Given as goal

abbrev pub invariant-rest : goal.invariant-rest
invariant-rest l = (more : List Observed) → fails_within l.most l.asked l.ce (l.rest ++ more) ≡ fails_within 65536 false l.ce (l.later ++ more)

abbrev pub decreases-rest : goal.decreases-rest
decreases-rest l = length l.rest
