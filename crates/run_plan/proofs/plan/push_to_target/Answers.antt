use Rattle.std.proofs.Common.{◌∷◌, ◌++◌, [], ◌∙◌, length, refl, ap, arith}
use Rattle.run_plan.specs.declared.plan.TargetJobs.{TargetJobs}
use Rattle.run_plan.proofs.JobPlans.{is_pushed}
use Rattle.run_plan.proofs.plan.push_to_target.Goals as goal

pub returns : goal.returns
returns c =
    let new : TargetJobs = record { jobs = c.push.new.self } in
    let same = ap (λ (t : TargetJobs). length t.jobs.items) c.index.ensures in
    let count = c.len-number.ensures in
    let len = c.index.result.now.jobs.ok.0 in
    let there = c.if-target-len.false in
    let all = c.len.ensures in
    let size = c.args.by_target.now.ok.0 in
    is_pushed c.args.job c.args.by_target.now.items _ c.args.target c.index.result.now c.index_mut.result.now new c.len-number.result (omega (arith, there, all, size)) (omega (arith, same, count, len))
    (c.in_ok-push.ensures.items ∙ ap (λ (t : TargetJobs). t.jobs.items ++ c.args.job ∷ []) c.index_mut.ensures.value)
    refl
