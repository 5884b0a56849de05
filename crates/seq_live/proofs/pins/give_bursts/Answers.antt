use Rattle.seq_live.proofs.Driven.{one_less, none_left_now, is_empty}
use Rattle.seq_live.proofs.pins.give_bursts.Goals as goal

pub rest-preserved : goal.rest-preserved
rest-preserved g c = λ buffer has fit.
    one_less buffer c.args.bursts.now c.rest.rest.now c.in-Some.behind.now c.in-Some.burst.now (g.P.Pins.driven c.args.pins.now) (g.P.Pins.driven c.rest.pins) (g.P.Pins.driven c.give_burst.new.pins) c.in-Some.ensures.cases.0 (c.rest.invariant buffer has fit) (c.give_burst.ensures buffer has)

pub returns : goal.returns
returns g c = λ buffer has fit.
    none_left_now buffer c.args.bursts.now c.rest.rest.now (g.P.Pins.driven c.args.pins.now) (g.P.Pins.driven c.rest.pins) (is_empty c.rest.rest.now c.in_default.ensures.cases) (c.rest.invariant buffer has fit)
