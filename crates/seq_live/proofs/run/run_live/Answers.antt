use Rattle.std.proofs.Common.{◌∙◌, sym, length, arith}
use Rattle.seq_live.specs.declared.run.RunEnd.TheVariants.{AllBack, SomeLeft}
use Rattle.seq_live.proofs.Turns.{rounds_begin, rounds_more, run_stops, run_ends, never_begun}
use Rattle.seq_live.proofs.run.run_live.Goals as goal

pub loop-init : goal.loop-init
loop-init g c = rounds_begin c.args.limits.busy_polls c.args.live.now c.args.jobs.now (g.P.Pins.driven c.args.pins.now)

pub loop-preserved : goal.loop-preserved
loop-preserved g c =
    rounds_more c.args.limits.busy_polls c.args.live.now c.loop.live c.do_round.new.live c.args.jobs.now c.loop.jobs c.do_round.new.jobs c.loop.counter (g.P.Pins.driven c.args.pins.now) (g.P.Pins.driven c.loop.pins) (g.P.Pins.driven c.do_round.new.pins) c.loop.invariant (sym c.are_all_back.ensures ∙ c.if-are_all_back.false) c.in-Ok.ensures.ok

pub returns-then-is_some : goal.returns-then-is_some
returns-then-is_some g c = never_begun c.args.limits c.args.live.now c.args.jobs.now (length c.args.taken.now) c.going.result (g.P.Pins.driven c.args.pins.now) c.going.ensures.live c.going.ensures.value (sym c.is_some.ensures ∙ c.if-is_some.true)

pub returns-then-are_all_back : goal.returns-then-are_all_back
returns-then-are_all_back g c =
    run_ends c.args.limits c.args.live.now c.loop.live c.args.jobs.now c.loop.jobs c.loop.counter (length c.args.taken.now) AllBack (g.P.Pins.driven c.args.pins.now) (g.P.Pins.driven c.loop.pins) c.going.ensures.live c.loop.invariant (sym c.are_all_back.ensures ∙ c.if-are_all_back.true)

pub returns-in-Err : goal.returns-in-Err
returns-in-Err g c =
    run_stops c.args.limits c.args.live.now c.loop.live c.do_round.new.live c.args.jobs.now c.loop.jobs c.do_round.new.jobs c.loop.counter (length c.args.taken.now) _ c.in-Err.fault (g.P.Pins.driven c.args.pins.now) (g.P.Pins.driven c.loop.pins) (g.P.Pins.driven c.do_round.new.pins) c.going.ensures.live c.loop.auto.taken c.loop.invariant c.in-Err.ensures.err

pub returns-then-are_all_back-2 : goal.returns-then-are_all_back-2
returns-then-are_all_back-2 g c =
    run_ends c.args.limits c.args.live.now c.loop.live c.args.jobs.now c.loop.jobs c.loop.counter (length c.args.taken.now) AllBack (g.P.Pins.driven c.args.pins.now) (g.P.Pins.driven c.loop.pins) c.going.ensures.live c.loop.invariant (sym c.are_all_back-2.ensures ∙ c.if-are_all_back-2.true)

pub returns-else-are_all_back-2 : goal.returns-else-are_all_back-2
returns-else-are_all_back-2 g c =
    run_ends c.args.limits c.args.live.now c.loop.live c.args.jobs.now c.loop.jobs c.loop.counter (length c.args.taken.now) SomeLeft (g.P.Pins.driven c.args.pins.now) (g.P.Pins.driven c.loop.pins) c.going.ensures.live c.loop.invariant
    (sym c.are_all_back-2.ensures ∙ c.if-are_all_back-2.false, omega (arith, c.loop.invariant.many, c.loop-test.false))
