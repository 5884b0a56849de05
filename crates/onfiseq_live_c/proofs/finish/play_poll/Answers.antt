use Rattle.std.proofs.Common.{sym, ◌∙◌}
use Rattle.bus_record.specs.Trial.{tried_view}
use Rattle.onfiseq_live_c.specs.Job.{job_view}
use Rattle.onfiseq_live_c.proofs.Polled.{poll_breaks}
use Rattle.onfiseq_live_c.proofs.finish.play_poll.Goals as goal

pub returns-in-Some-clause-some : goal.returns-in-Some-clause-some
returns-in-Some-clause-some c =
    poll_breaks (tried_view c.args.bus.now c.args.job.now.ce c.args.kept.now) (job_view c.args.job.now) c.args.word c.in-Some.rule c.requires.poll (sym c.in-Some.is ∙ c.try_poll.ensures.rule)
