use Rattle.std.proofs.Common.{arith}
use Rattle.seq_core.proofs.Cores.{one_more, one_longer, replicate_all}
use Rattle.seq_core.proofs.lun_slots.empty_slots.Goals as goal

pub loop-preserved : goal.loop-preserved
loop-preserved g c =
    record {
      items = one_more c.loop.slots.items c.push.new.self.items c.loop.counter c.loop.invariant.items c.push.ensures.items;
      count = one_longer c.loop.slots.items c.push.new.self.items c.loop.counter c.loop.invariant.count c.push.ensures.items;
    }

pub returns : goal.returns
returns g c = replicate_all c.loop.slots.items c.loop.counter c.args.count c.loop.invariant.items (omega (arith, c.loop-test.false, c.loop.auto.counter-end))
