use Rattle.seq_live.proofs.Driven.{taken_last}
use Rattle.seq_live.proofs.pins.do_bursts.Goals as goal

pub returns : goal.returns
returns g c = λ buffer has fit.
    taken_last c.args.lun.ce buffer c.args.bursts.now c.take_bytes.new.taken (g.P.Pins.driven c.args.pins.now) (g.P.Pins.driven c.give_bursts.new.pins) (g.P.Pins.driven c.take_bytes.new.pins) (c.give_bursts.ensures buffer has fit) c.take_bytes.ensures
