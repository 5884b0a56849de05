use Rattle.std.proofs.Common.{sym, ap, ◌∙◌}
use Rattle.bus_record.specs.Bus.{bus_view}
use Rattle.onfiseq_live_c.specs.Job.{job_view}
use Rattle.onfiseq_live_c.specs.Next.{turn_of}
use Rattle.onfiseq_live_c.proofs.Polled.{poll_stops, poll_is_told}
use Rattle.onfiseq_live_c.proofs.next.tell_poll.Goals as goal

pub returns-in-Some : goal.returns-in-Some
returns-in-Some c =
    c.stopped.ensures
    ∙ ap (turn_of c.args.job.now.place) (sym (poll_stops (bus_view c.args.bus.now) (job_view c.args.job.now) c.args.word c.in-Some.rule c.requires.poll (sym c.in-Some.is ∙ c.ask_poll.ensures)))

pub returns-in-None : goal.returns-in-None
returns-in-None c =
    c.of_poll.ensures
    ∙ ap (turn_of c.args.job.now.place) (sym (poll_is_told (bus_view c.args.bus.now) (job_view c.args.job.now) c.args.word c.requires.poll (sym c.in-None.is ∙ c.ask_poll.ensures)))
