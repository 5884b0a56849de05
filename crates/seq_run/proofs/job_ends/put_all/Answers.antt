use Rattle.std.proofs.Common.{◌∙◌, map}
use Rattle.channel_work.specs.Done.{ended_of}
use Rattle.seq_run.proofs.Endings.{puts_next}
use Rattle.seq_run.proofs.job_ends.put_all.Goals as goal

pub loop-named-preserved : goal.loop-named-preserved
loop-named-preserved c = (
  c.put_named.ensures.outputs ∙ c.loop-named.invariant.0,
  c.put_named.ensures.names ∙ c.loop-named.invariant.1,
  puts_next (map ended_of c.args.done.items) c.loop-named.done.items c.pop.new.self.items c.in-Some.named c.args.endings.now.items c.loop-named.endings.items c.put_named.new.endings.items
      c.in-Some.ensures.items c.put_named.ensures.given c.loop-named.invariant.2,
)
