use Rattle.std.proofs.Common.{length}
use Rattle.seq_run.proofs.Hosting.{AreLeft}
use Rattle.seq_run.proofs.running.make_hosts.Given as goal

abbrev pub invariant-loop-target : goal.invariant-loop-target
invariant-loop-target g l = AreLeft l.queue g.L.RunName.jobs l.passes.items l.by_target.items

abbrev pub decreases-loop-target : goal.decreases-loop-target
decreases-loop-target g l = length l.by_target.items
