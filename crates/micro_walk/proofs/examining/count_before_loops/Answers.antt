use Rattle.std.proofs.Common.{arith}
use Rattle.micro_walk.proofs.Front.{some_loop}
use Rattle.micro_walk.proofs.examining.count_before_loops.Goals as goal

pub returns-clause-loops : goal.returns-clause-loops
returns-clause-loops c = λ h.
    let less = some_loop c.args.words.now h in
    let e = c.loop-place.invariant in
    let past = c.loop-place-test.false in
    omega (arith, less, e, past)
