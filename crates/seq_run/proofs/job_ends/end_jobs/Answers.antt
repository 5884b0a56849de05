use Rattle.std.proofs.Common.{◌∙◌, ap, map}
use Rattle.channel_work.specs.Done.{ended_of}
use Rattle.seq_run.specs.Endings.{ending_outputs, ending_names}
use Rattle.seq_run.proofs.Endings.{outputs_of_opened, names_of_opened, were_given}
use Rattle.seq_run.proofs.job_ends.end_jobs.Goals as goal

pub returns-in-Ok-clause-outputs : goal.returns-in-Ok-clause-outputs
returns-in-Ok-clause-outputs c =
    c.in-Ok.ensures.outputs
    ∙ c.put_all.ensures.outputs
    ∙ ap ending_outputs c.in_ok-endings.ensures
    ∙ outputs_of_opened c.args.planned.now

pub returns-in-Ok-clause-names : goal.returns-in-Ok-clause-names
returns-in-Ok-clause-names c =
    c.in-Ok.ensures.names
    ∙ c.put_all.ensures.names
    ∙ ap ending_names c.in_ok-endings.ensures
    ∙ names_of_opened c.args.planned.now

pub returns-in-Ok-clause-given : goal.returns-in-Ok-clause-given
returns-in-Ok-clause-given c =
    were_given (map ended_of c.args.done.items) c.args.planned.now c.in_ok-endings.endings.items c.put_all.new.endings.items c.in-Ok.ended.items
    c.in_ok-endings.ensures c.put_all.ensures.given c.in-Ok.ensures.given
