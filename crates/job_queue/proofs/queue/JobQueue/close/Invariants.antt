use Rattle.std.proofs.Common.{◌≡◌}
use Rattle.job_queue.specs.Holding.{IsTaking, jobs_of, hosts_of}
use Rattle.crossbeam_queue.specs.Passes.{IsPassOf, view}
use Rattle.job_queue.proofs.Closing.{IsMet}
use Rattle.job_queue.proofs.queue.JobQueue.close.Given as goal

abbrev pub invariant-loop-host_pass : goal.invariant-loop-host_pass
invariant-loop-host_pass g l = record {
  pass : IsPassOf l.ring.value l.pass × IsTaking (view l.pass);
  jobs : jobs_of (view l.pass) ≡ l.fn.taker.taken;
  hosts : hosts_of (view l.pass) ≡ l.fn.self.hosts;
  taken : l.tally.taken.items ≡ l.initial.tally.taken.items;
  met : IsMet l.fn.passes.items l.passes.items l.tally.put.items l.fn.taker.taken l.fn.self.hosts;
}

abbrev pub decreases-loop-host_pass : goal.decreases-loop-host_pass
decreases-loop-host_pass g l = goal.left-loop-host_pass g l
