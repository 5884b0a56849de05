use Rattle.std.proofs.Common.{◌∙◌, ap, sym, subst, drop, List, Option}
use Rattle.seq_files.specs.Store.{Store}
use Rattle.run_file.specs.declared.statement.Numbered.{Numbered as Written}
use Rattle.run_file.specs.Shown.{shown_all, shown_text}
use Rattle.run_plan.specs.Judged.{RestPasses, page_of, targets_of}
use Rattle.run_plan.proofs.Resting.{plan_passes_at, rest_shown}
use Rattle.run_plan.proofs.Settings.{set_from}
use Rattle.run_plan.proofs.planning.plan_run.Goals as goal

pub returns-in-Ok-plan_rest-clause-ok : goal.returns-in-Ok-plan_rest-clause-ok
returns-in-Ok-plan_rest-clause-ok g c =
    let items = c.as_slice-statements.ensures.value in
    let rest = c.split_at.result.1.now in
    plan_passes_at (g.F.Files.store c.args.files.now) c.args.profile (shown_text c.args.text.now) (c.in-Some.line, c.in-Some.path.now) c.in-Ok.page.geometry c.in-Ok-plan_rest.plan.dies.geometry
    c.in-Some-find_targets.targets c.in-Ok-plan_rest.plan.dies.targets (shown_all rest) c.in-Ok-plan_rest.ensures.channel.0 c.in-Ok-plan_rest.ensures.channel.1
    (ap (λ (l : List Written). page_of (shown_all l)) (sym items) ∙ c.in-Some.ensures)
    c.in-Ok.ensures.ok
    (ap (λ (l : List Written). targets_of (shown_all l)) (sym items) ∙ sym c.in-Some-find_targets.ensures)
    (rest_shown c.args.text.now.statements.items rest (c.split_at.ensures.back ∙ ap (λ (l : List Written). drop 2 l) items))
    (subst (λ (s : Option Store). RestPasses s c.in-Ok.page.geometry c.in-Some-find_targets.targets (shown_all rest) c.args.text.now.fault) c.in-Ok.ensures.stays c.in-Ok-plan_rest.ensures.ok)

pub returns-in-Ok-plan_rest-clause-setup : goal.returns-in-Ok-plan_rest-clause-setup
returns-in-Ok-plan_rest-clause-setup g c =
    let items = c.as_slice-statements.ensures.value in
    let rest = c.split_at.result.1.now in
    set_from (g.F.Files.store c.args.files.now) _ c.in-Ok.page.geometry c.in-Ok-plan_rest.plan.dies.geometry c.in-Some-find_targets.targets c.in-Ok-plan_rest.plan.dies.targets
    (drop 2 (shown_text c.args.text.now).statements) (shown_all rest) c.in-Ok-plan_rest.plan c.in-Ok.ensures.stays c.in-Ok-plan_rest.ensures.channel.0 c.in-Ok-plan_rest.ensures.channel.1
    (rest_shown c.args.text.now.statements.items rest (c.split_at.ensures.back ∙ ap (λ (l : List Written). drop 2 l) items)) c.in-Ok-plan_rest.ensures.setup
