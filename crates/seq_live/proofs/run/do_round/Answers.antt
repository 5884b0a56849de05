use Rattle.std.proofs.Common.{ℕ, subst, arith, length}
use Rattle.seq_live.specs.Jobs.{IsRunFault}
use Rattle.seq_live.proofs.Turns.{round_begins, round_more, round_ends, round_stops}
use Rattle.seq_live.proofs.run.do_round.Goals as goal

pub loop-place-init : goal.loop-place-init
loop-place-init g c = round_begins c.args.most c.args.live.now c.args.jobs.now c.new-turns.result.had (g.P.Pins.driven c.args.pins.now) c.new-turns.ensures

pub loop-place-preserved : goal.loop-place-preserved
loop-place-preserved g c =
    round_more c.args.most c.args.live.now c.loop-place.live c.turn_in_round.new.live c.args.jobs.now c.loop-place.jobs c.loop-place.place c.index-jobs-place.result c.turn_in_round.new.job c.loop-place.turns.had c.turn_in_round.new.turns.had (g.P.Pins.driven c.args.pins.now) (g.P.Pins.driven c.loop-place.pins) (g.P.Pins.driven c.turn_in_round.new.pins)
    (omega (arith, c.loop-place-test.true, c.loop-place.auto.jobs)) c.loop-place.invariant c.in-Ok.ensures.ok

pub returns-in-Err-clause-err : goal.returns-in-Err-clause-err
returns-in-Err-clause-err g c =
    let h = c.in-Err.ensures.err in
    round_stops c.args.most c.args.live.now c.loop-place.live c.turn_in_round.new.live c.args.jobs.now c.loop-place.jobs c.loop-place.place c.index-jobs-place.result c.turn_in_round.new.job c.loop-place.turns.had (length c.args.taken.now) c.in-Err.fault (g.P.Pins.driven c.args.pins.now) (g.P.Pins.driven c.loop-place.pins) (g.P.Pins.driven c.turn_in_round.new.pins) c.loop-place.invariant
    (subst (λ (n : ℕ). IsRunFault c.turn_in_round.new.live n c.in-Err.fault) c.loop-place.auto.taken h.0, h.1, h.2, h.3)

pub returns-clause-ok : goal.returns-clause-ok
returns-clause-ok g c = round_ends c.args.most c.args.live.now c.loop-place.live c.args.jobs.now c.loop-place.jobs c.loop-place.place c.loop-place.turns.had (g.P.Pins.driven c.args.pins.now) (g.P.Pins.driven c.loop-place.pins) (omega (arith, c.loop-place-test.false)) c.loop-place.invariant
