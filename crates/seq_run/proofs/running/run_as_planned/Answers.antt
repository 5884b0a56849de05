use Rattle.std.proofs.Common.{◌∙◌, ap}
use Rattle.run_plan.specs.Planned.{planned_names}
use Rattle.seq_run.proofs.Happening.{as_planned}
use Rattle.seq_run.proofs.running.run_as_planned.Goals as goal

pub returns-clause-happened : goal.returns-clause-happened
returns-clause-happened g c =
    as_planned c.args.plan c.in_ok-core.core c.in_ok-core-2.field-0 c.in_ok-bus.bus c.in_ok-jobs.jobs.items c.in_ok-core.ensures.opened c.in_ok-core-2.ensures c.in_ok-bus.ensures.bus
    (c.in_ok-jobs.ensures.names ∙ ap planned_names c.as_slice-2.ensures.value) c.in_ok-jobs.ensures.given
