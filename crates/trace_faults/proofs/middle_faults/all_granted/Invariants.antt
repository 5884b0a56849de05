use Rattle.std.proofs.Common.{◌≡◌, ◌++◌, drop}
use Rattle.trace_faults.specs.Middle.{all_granted}
use Rattle.trace_faults.proofs.middle_faults.all_granted.Given as goal

abbrev pub invariant-loop-place : goal.invariant-loop-place
invariant-loop-place g l = l.granted.items ++ all_granted l.place (drop l.place l.verdicts) ≡ all_granted 0 l.verdicts
