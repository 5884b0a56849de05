use Rattle.std.proofs.Common.{◌∷◌, ◌++◌, ◌+◌, take, sym, ap, ◌∙◌, append-nil}
use Rattle.trace_wave.specs.Changes.{changes}
use Rattle.trace_wave.specs.Levels.{model_levels}
use Rattle.trace_wave.proofs.Lists.{changes_same}
use Rattle.trace_wave.proofs.Renewed.{told_kept}
use Rattle.trace_wave.proofs.model.write_effect.Goals as goal

pub returns-clause-value : goal.returns-clause-value
returns-clause-value c p targets past stands keeps =
    let old = take c.args.place c.args.room.now in
    sym (ap (λ xs. old ++ changes (45 + targets) (model_levels p targets past 0) xs) (c.keeps_levels.ensures p targets past stands c.if-not-keeps_levels.false)
    ∙ ap (λ xs. old ++ xs) (changes_same (45 + targets) (model_levels p targets past 0)) ∙ append-nil old)

pub returns-clause-kept : goal.returns-clause-kept
returns-clause-kept c p targets past stands keeps =
    keeps ∙ sym (told_kept p targets past (c.args.item ∷ past) (c.keeps_levels.ensures p targets past stands c.if-not-keeps_levels.false))
