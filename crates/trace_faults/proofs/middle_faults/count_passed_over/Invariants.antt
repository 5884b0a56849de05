use Rattle.std.proofs.Common.{◌≡◌, ◌+◌, ◌≤◌, drop}
use Rattle.trace_faults.specs.Middle.{count_passed_over}
use Rattle.trace_faults.proofs.middle_faults.count_passed_over.Given as goal

abbrev pub invariant-loop-place : goal.invariant-loop-place
invariant-loop-place l = (l.count + count_passed_over (drop l.place l.verdicts) ≡ count_passed_over l.verdicts) × (l.count ≤ l.place)
