use Rattle.std.proofs.Common.{◌≡◌, true, List, [], ◌∷◌, ◌++◌, reverse, refl, subst, ap, ◌∙◌}
use Rattle.onfi_cycle.specs.Permitted.{is_legal}
use Rattle.trace_faults.specs.declared.broken_rule.BrokenRule.{BrokenRule}
use Rattle.recording.specs.Targets.{count_of}
use Rattle.recording.proofs.Checked.{none_told, first_told, told_at}
use Rattle.recording.proofs.rules_judging.find_first.Goals as goal

pub returns-in-Ok : goal.returns-in-Ok
returns-in-Ok g c =
    c.new.ensures.items ∙
    none_told c.args.view.now.geometry (count_of c.args.view.now.targets) c.args.items.now
    (subst (λ n. is_legal c.args.view.now.geometry n (reverse c.args.items.now) ≡ true) c.count.ensures.value (c.in-Ok.ensures.legal.0 refl))

pub returns-in_ok-push-in-Err-At : goal.returns-in_ok-push-in-Err-At
returns-in_ok-push-in-Err-At g c =
    c.in_ok-push-in-Err-At.ensures.items ∙
    (ap (λ (fs : List BrokenRule). fs ++ (record { item = c.in-Err-At.item; rule = c.in-Err-At.rule } ∷ [])) c.new-told.ensures.items ∙
    first_told c.args.view.now.geometry (count_of c.args.view.now.targets) c.args.items.now c.in-Err-At.item c.in-Err-At.rule
    (told_at c.args.view.now.geometry c.count.result (count_of c.args.view.now.targets) c.args.items.now c.in-Err-At.field-0 c.in-Err-At.item c.in-Err-At.rule c.count.ensures.value c.in-Err-At.field-0-is c.in-Err-At.ensures.first))
