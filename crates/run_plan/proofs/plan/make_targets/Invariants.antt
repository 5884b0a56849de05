use Rattle.run_plan.specs.Planned.{jobs_of}
use Rattle.run_plan.specs.Setup.{HaveNoJobs}
use Rattle.run_plan.proofs.plan.make_targets.Given as goal

abbrev pub invariant-loop : goal.invariant-loop
invariant-loop l = HaveNoJobs (jobs_of l.made.items)
