use Rattle.std.proofs.Common.{refl}
use Rattle.std.specs.Option.{option_copied}
use Rattle.run_plan.specs.declared.plan.RunPlan.{RunPlan}
use Rattle.run_plan.proofs.Settings.{job_planned}
use Rattle.run_plan.proofs.plan.RunPlan.add_job.Goals as goal

pub returns-clause-setup : goal.returns-clause-setup
returns-clause-setup g c =
    let old = c.args.self.now in
    let new : RunPlan = record { dies = old.dies; images = old.images; jobs = c.push.new.self; polls = old.polls; times = old.times; fails = old.fails } in
    job_planned (g.F.Files.store c.args.files.now) old.dies.geometry c.args.lun c.args.base c.args.text.now (option_copied c.args.input) c.in_ok-job.field-0.job old new
    c.in_ok-job.ensures.job refl c.in_ok-push.ensures.planned c.in_ok-push.ensures.steps
