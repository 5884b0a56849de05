use Rattle.std.proofs.Common.{◌≡◌, ◌++◌, drop}
use Rattle.trace_faults.specs.Middle.{all_not_shown}
use Rattle.trace_faults.proofs.middle_faults.all_not_shown.Given as goal

abbrev pub invariant-loop-place : goal.invariant-loop-place
invariant-loop-place g l = l.told.items ++ all_not_shown l.place (drop l.place l.verdicts) ≡ all_not_shown 0 l.verdicts
