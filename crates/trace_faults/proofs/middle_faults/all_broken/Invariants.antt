use Rattle.std.proofs.Common.{◌≡◌, ◌++◌, drop}
use Rattle.trace_faults.specs.Middle.{all_broken}
use Rattle.trace_faults.proofs.middle_faults.all_broken.Given as goal

abbrev pub invariant-loop-place : goal.invariant-loop-place
invariant-loop-place g l = l.faults.items ++ all_broken l.place (drop l.place l.verdicts) ≡ all_broken 0 l.verdicts
