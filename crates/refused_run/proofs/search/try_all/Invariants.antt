use Rattle.std.proofs.Common.{◌≡◌}
use Rattle.refused_run.proofs.search.try_all.Given as goal

abbrev pub invariant-loop : goal.invariant-loop
invariant-loop g l = l.course.task ≡ l.fn.course.task
