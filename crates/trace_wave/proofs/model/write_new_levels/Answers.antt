use Rattle.std.proofs.Common.{◌+◌, ◌∷◌, ◌++◌, take, ap, ◌∙◌}
use Rattle.trace_wave.proofs.Renewed.{model_changes}
use Rattle.trace_wave.proofs.model.write_new_levels.Goals as goal

pub returns-clause-value : goal.returns-clause-value
returns-clause-value c p targets past stands keeps =
    c.renew_all.ensures.value p targets (c.args.item ∷ past) past (c.go_on.ensures p targets past stands) keeps
    ∙ ap (λ xs. take c.args.place c.args.room.now ++ xs) (model_changes p targets (45 + targets) past (c.args.item ∷ past))
