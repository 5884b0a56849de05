use Rattle.std.proofs.Common.{arith}
use Rattle.job_queue.proofs.Moves.{stores_as}
use Rattle.job_queue.proofs.queue.JobQueue.submit.Goals as goal

pub push_as-requires-clause-rule : goal.push_as-requires-clause-rule
push_as-requires-clause-rule g c =
    let p = c.pass.invariant in
    let room = c.if-next-ge-MOST_STORED.false in
    (stores_as _ _ _ _ _ _ _ p.now p.next_is (omega (arith, room)), λ items views h at. tt)
