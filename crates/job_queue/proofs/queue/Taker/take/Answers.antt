use Rattle.std.proofs.Common.{◌∙◌, arith}
use Rattle.job_queue.proofs.Moves.{takes_as, after_taking}
use Rattle.job_queue.proofs.Taking.{takes_keeps}
use Rattle.job_queue.proofs.queue.Taker.take.Goals as goal

pub pop_as-requires-clause-rule : goal.pop_as-requires-clause-rule
pop_as-requires-clause-rule g c =
    let p = c.self.invariant.1 in
    (takes_as _ _ _ _ p.now, λ items views h at. tt)

pub overflow_add-queued : goal.overflow_add-queued
overflow_add-queued g c =
    let told = after_taking _ _ _ _ _ c.self.invariant.1.now c.in_ok-queued.ensures.rule in
    let short = told.1.short in
    omega (arith, short)

pub index_mut-requires : goal.index_mut-requires
index_mut-requires g c =
    let told = after_taking _ _ _ _ _ c.self.invariant.1.now c.in_ok-queued.ensures.rule in
    let host = told.1.host in
    let count = c.self.invariant.1.counted.0 in
    omega (arith, host, count)

pub invariant_of-self-2 : goal.invariant_of-self-2
invariant_of-self-2 g c =
    let told = after_taking _ _ _ _ _ c.self.invariant.1.now c.in_ok-queued.ensures.rule in
    let queue = c.pop_as.ensures.queue in
    (queue.0 ∙ c.self.invariant.0, takes_keeps _ _ _ _ _ _ c.self.invariant.1 queue.2 told)
