use Rattle.std.proofs.Common.{◌++◌, ◌+◌, List, take, sym, ap, ◌∙◌, append-nil}
use Rattle.onfi_cycle.specs.declared.item.Item.{Item}
use Rattle.trace_wave.specs.Changes.{changes}
use Rattle.trace_wave.specs.Levels.{model_levels}
use Rattle.trace_wave.proofs.Lists.{changes_same}
use Rattle.trace_wave.proofs.Drawn.{past_stays}
use Rattle.trace_wave.proofs.model.write_model.Goals as goal

pub returns-then-rule-ne0-clause-value : goal.returns-then-rule-ne0-clause-value
returns-then-rule-ne0-clause-value c p targets past stands keeps =
    let old = take c.args.place c.args.room.now in
    sym (ap (λ (q : List Item). old ++ changes (45 + targets) (model_levels p targets past c.args.rule.now) (model_levels p targets q c.args.rule.now)) (past_stays past c.args.rule.now c.args.item c.if-rule-ne0.true)
    ∙ ap (λ xs. old ++ xs) (changes_same (45 + targets) (model_levels p targets past c.args.rule.now)) ∙ append-nil old)
