use Rattle.trace_text.proofs.Runs.{one_more}
use Rattle.trace_text.proofs.data_run.count_cycles.Goals as goal

pub loop-count-preserved : goal.loop-count-preserved
loop-count-preserved c = one_more c.args.kind c.args.ce c.args.items.now c.loop-count.count _ c.if-count-items.true c.loop-count.invariant.0 (c.is_data_of.ensures (c.if-is_data_of.true))
