use Rattle.std.proofs.Common.{refl}
use Rattle.seq_run.proofs.Timing.{one_timed}
use Rattle.seq_run.proofs.timed_trace.time_items.Goals as goal

pub loop-item-preserved : goal.loop-item-preserved
loop-item-preserved c =
    one_timed c.args.items.now c.loop-item.item-index _ c.loop-item.timed.items c.push.new.self.items _ c.loop-item.clock c.take-time.new.self
    c.in_ok-push.ensures.items c.loop-item-test.true refl c.take-time.ensures.rises c.take-time.ensures.value c.loop-item.invariant
