use Rattle.std.proofs.Common.{List, refl, subst}
use Rattle.micro_program.specs.Program.{Job}
use Rattle.seq_core.specs.Shows.{channel_in}
use Rattle.seq_run.specs.declared.running.Worked.{Worked}
use Rattle.seq_run.specs.Happened.{HasRun}
use Rattle.seq_run.proofs.Happening.{has_run}
use Rattle.seq_run.proofs.running.run_channel.Goals as goal

pub returns : goal.returns
returns g c =
    let left = c.in_ok-core.field-0 in
    let worked : Worked = record { core = left.core; done = left.done } in
    subst (λ (l : List (List Job)). HasRun (channel_in c.args.core) l worked) c.requires.jobs
    (has_run g.L.Turns.origin c.args.core c.args.queue.queue g.L.RunName.jobs left worked c.requires.origin c.in_ok-core.ensures.from c.in_ok-core.ensures.worked c.in_ok-busy.ensures
    c.in_ok-close_queue.ensures refl refl)
