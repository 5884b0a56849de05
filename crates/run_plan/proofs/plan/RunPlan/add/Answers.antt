use Rattle.std.proofs.Common.{IfErr, OnOk, sym, ap, subst}
use Rattle.std.specs.Option.{option_copied}
use Rattle.run_file.specs.Line.{Statement}
use Rattle.run_file.specs.Shown.{shown_statement}
use Rattle.seq_inputs.specs.Stops.{Says}
use Rattle.run_plan.specs.Plans.{PlansOne}
use Rattle.run_plan.specs.Judged.{IsRefused}
use Rattle.run_plan.proofs.Refusing.{job_line_said}
use Rattle.run_plan.proofs.plan.RunPlan.add.Goals as goal

pub returns-in-Image-clause-setup : goal.returns-in-Image-clause-setup
returns-in-Image-clause-setup g c =
    subst (λ (s : Statement). OnOk c.add_image.result (PlansOne (g.F.Files.store c.args.files.now) c.args.self.now.dies.geometry s c.args.self.now c.add_image.new.self))
    (sym (ap shown_statement c.in-Image.is)) c.add_image.ensures.setup

pub returns-in_ok-lun-in-Job-clause-err : goal.returns-in_ok-lun-in-Job-clause-err
returns-in_ok-lun-in-Job-clause-err g c =
    subst (λ (s : Statement). IfErr c.add_job.result (Says (IsRefused (g.F.Files.store c.args.files.now) c.args.self.now.dies.geometry c.args.self.now.dies.targets s)))
    (sym (ap shown_statement c.in-Job.is))
    (job_line_said (g.F.Files.store c.args.files.now) c.args.self.now.dies.geometry c.args.self.now.dies.targets c.in-Job.target c.in-Job.lun c.in-Job.base c.in_ok-lun-in-Job.lun
    c.in-Job.text.now (option_copied c.in-Job.input) (option_copied c.in-Job.output) c.add_job.result c.in_ok-lun-in-Job.ensures.ok.0 c.in_ok-lun-in-Job.ensures.ok.1 c.add_job.ensures.err)
