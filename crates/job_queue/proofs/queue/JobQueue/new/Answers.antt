use Rattle.std.proofs.Common.{◌+◌, [], ◌∷◌, length, ap, ◌∙◌, length-append}
use Rattle.job_queue.specs.Passes.{Taking}
use Rattle.job_queue.proofs.Taking.{each_more}
use Rattle.job_queue.proofs.queue.JobQueue.new.Goals as goal

pub loop-preserved : goal.loop-preserved
loop-preserved g c =
    let i = c.loop.invariant in
    let made = c.in_ok-next_host.ensures in
    let pushed = c.in_ok-push.ensures.items in
    let new = made.ok ∙ ap (λ (t : Taking g.row.J.Denot). record { table = t.table; host = t.hosts; stored = [] }) i.taker in
    record {
      taker = made.made ∙ ap (λ (t : Taking g.row.J.Denot). record t { hosts = t.hosts + 1 }) i.taker;
      count = ap length pushed ∙ length-append c.loop.passes.items (c.in_ok-next_host.field-0 ∷ []) ∙ ap (λ n. n + 1) i.count;
      each = rw (pushed, new) (each_more (λ h. record { table = c.in_ok-queue.taker.table; host = h; stored = [] }) c.loop.passes.items c.loop.counter i.count i.each);
    }
