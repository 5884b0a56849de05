use Rattle.std.proofs.Common.{ℕ, List, ◌∷◌, ◌++◌, [], ◌∙◌, ap, subst}
use Rattle.std.proofs.lemmas.List.{map-append}
use Rattle.onfi_cycle.specs.declared.lun.Lun.{Lun}
use Rattle.channel_work.specs.declared.stored.Name.{Name}
use Rattle.run_plan.specs.declared.plan.PlannedJob.{PlannedJob}
use Rattle.run_plan.specs.Planned.{jobs_of, planned_names}
use Rattle.run_plan.specs.Setup.{IsJobPushed}
use Rattle.run_plan.proofs.JobPlans.{plan_more}
use Rattle.run_plan.proofs.plan.PlannedJobs.push.Goals as goal

pub returns-clause-planned : goal.returns-clause-planned
returns-clause-planned c =
    let job = c.args.job in
    let old = c.args.self.now in
    let number = c.in_ok-number.number in
    let on = ap (λ (l : Lun). l.ce) c.lun-target.ensures.value in
    plan_more job (jobs_of old.by_target.items) (jobs_of c.push_to_target.new.by_target.items) (planned_names old.all.items) (planned_names c.push.new.self.items) number
    (subst (λ (n : ℕ). IsJobPushed n job (jobs_of old.by_target.items) (jobs_of c.push_to_target.new.by_target.items) number) (c.from.ensures ∙ on) c.in_ok-number.ensures)
    (ap planned_names c.in_ok-push.ensures.items
    ∙ map-append (λ (p : PlannedJob). p.name) old.all.items _
    ∙ ap (λ (n : ℕ). (let name : Name = record { host = n; number = number } in planned_names old.all.items ++ name ∷ [])) (c.from-3.ensures ∙ on))
