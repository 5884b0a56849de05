use Rattle.std.proofs.Common.{◌≡◌}
use Rattle.refused_run.proofs.search.end_for_any.Given as goal

abbrev pub invariant-loop-reason : goal.invariant-loop-reason
invariant-loop-reason g l = l.course.task ≡ l.fn.course.task
