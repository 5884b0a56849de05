use Rattle.std.proofs.Common.{◌≡◌, List, ◌++◌, length}
use Rattle.bus_capture.specs.declared.sampler.Observed.{Observed}
use Rattle.bus_capture.specs.Asking.{lun_fails_within}
use Rattle.bus_capture.proofs.lun_ahead.lun_fails_ahead.Given as goal

abbrev pub invariant-rest : goal.invariant-rest
invariant-rest l =
    (more : List Observed) →
    lun_fails_within l.geometry l.lun l.most l.asking (l.rest ++ more) ≡ lun_fails_within l.geometry l.lun 65536 l.fn.first (l.later ++ more)

abbrev pub decreases-rest : goal.decreases-rest
decreases-rest l = length l.rest
