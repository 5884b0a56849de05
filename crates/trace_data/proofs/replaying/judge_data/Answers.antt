use Rattle.trace_data.proofs.Walks.{judged}
use Rattle.trace_data.proofs.replaying.judge_data.Goals as goal

pub returns : goal.returns
returns c =
    judged c.args.bus c.tell_items.new.bus c.args.known.now c.new-differences.result.items c.tell_items.new.told.items c.args.items.now c.in_ok-stopped.stopped c.into_dies.result.items
    c.requires c.new-differences.ensures.items c.in_ok-stopped.ensures c.into_dies.ensures.count c.into_dies.ensures.dies
