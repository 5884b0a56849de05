use Rattle.std.proofs.Common.{reverse, take}
use Rattle.std.proofs.lemmas.List.{take_rest}
use Rattle.trace_text.proofs.FirstBroken.{is_first_broken, broken_isn't_legal}
use Rattle.trace_text.proofs.Runs.{goes_on}
use Rattle.trace_text.proofs.checking.first_broken.Goals as goal

pub loop-place-preserved : goal.loop-place-preserved
loop-place-preserved g c =
    let items = c.args.items.now in
    let place = c.loop-place.place in
    goes_on c.args.geometry.now c.args.targets c.go_on.new.state items _ place c.in-Ok.count (take_rest items place) c.loop-place.invariant.1 c.in-Ok.ensures.some.1
    (c.in-Ok.ensures.past c.args.geometry.now c.args.targets (reverse (take place items)) c.loop-place.invariant.0)

pub returns-in-Err-clause-some : goal.returns-in-Err-clause-some
returns-in-Err-clause-some g c =
    let items = c.args.items.now in
    let place = c.loop-place.place in
    is_first_broken c.args.geometry.now c.args.targets items _ place c.in-Err.rule (take_rest items place) c.loop-place-test.true c.loop-place.invariant.0.legal
    (λ item first. c.in-Err.ensures.err c.args.geometry.now c.args.targets (reverse (take place items)) item c.loop-place.invariant.0 first)

pub returns-in-Err-clause-illegal : goal.returns-in-Err-clause-illegal
returns-in-Err-clause-illegal g c = broken_isn't_legal c.args.geometry.now c.args.targets c.args.items.now c.loop-place.place c.in-Err.rule (returns-in-Err-clause-some g c)
