use Rattle.seq_run.proofs.Hosting.{last_left}
use Rattle.seq_run.proofs.running.make_hosts.Goals as goal

pub loop-target-preserved : goal.loop-target-preserved
loop-target-preserved g c =
    (last_left c.args.queue.now g.L.RunName.jobs c.loop-target.passes.items c.pop-in-Some.new.self.items c.loop-target.by_target.items c.pop.new.self.items c.in-Some-pop.pass c.in-Some.target
    c.in-Some-pop.ensures.items c.in-Some.ensures.items c.loop-target.invariant).rest
