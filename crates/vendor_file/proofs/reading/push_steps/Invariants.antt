use Rattle.std.proofs.Common.{◌≡◌, ◌++◌, replicate}
use Rattle.vendor_file.proofs.reading.push_steps.Given as goal

abbrev pub invariant-left : goal.invariant-left
invariant-left g l = l.steps.items ++ replicate l.left l.step ≡ l.initial.steps.items ++ replicate l.count l.step

abbrev pub decreases-left : goal.decreases-left
decreases-left g l = l.left
