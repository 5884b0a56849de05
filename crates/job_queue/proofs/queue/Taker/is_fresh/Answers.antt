use Rattle.std.proofs.Common.{◌∙◌, ap}
use Rattle.job_queue.proofs.Taking.{none_taken, all_are_zero}
use Rattle.job_queue.proofs.queue.Taker.is_fresh.Goals as goal

pub returns : goal.returns
returns g c =
    none_taken c.self.inside.pass c.self.inside.hosts c.self.inside.tally.put.items c.self.inside.tally.taken.items c.all_are_zero.result c.args.self.now.taken c.self.invariant.1
    (c.all_are_zero.ensures ∙ ap all_are_zero c.as_slice.ensures.value) (ap (λ t. t.taken) c.self.view_is)
