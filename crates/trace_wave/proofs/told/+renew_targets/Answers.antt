use Rattle.std.proofs.Common.{◌++◌, take, sym, ap, ◌∙◌, true, ℕ, rules}
use Rattle.trace_wave.specs.Levels.{target_levels}
use Rattle.trace_wave.proofs.Counted.{targets_more}
use Rattle.trace_wave.proofs.Renewed.{renewed}
use Rattle.trace_wave.proofs.told.+renew_targets.Goals as goal

pub returns-clause-value : goal.returns-clause-value
returns-clause-value t c =
    renewed c.args.code _ (take c.args.place c.args.room.now) (take c.renew_target-place.result c.renew_target-place.new.room) (take c.renew_targets.result c.renew_targets.new.room)
    c.args.kept.now _ _ c.renew_target-place.new.kept c.renew_targets.new.kept c.split_at_mut-target.ensures.value
    (search rules) (search rules) c.renew_target-place.ensures.value c.renew_targets.ensures.value

pub returns-clause-kept : goal.returns-clause-kept
returns-clause-kept t c p targets past stands same within =
    ap (λ xs. xs ++ c.renew_targets.new.kept) (c.renew_target-place.ensures.kept p targets past stands (search rules) (search rules) ∙ ap (λ (k : ℕ). target_levels true p past c.args.n k 0) same)
    ∙ ap (λ xs. target_levels true p past c.args.n p.luns 0 ++ xs) (c.renew_targets.ensures.kept p targets past stands same (search rules))
    ∙ sym (targets_more true p past c.args.count c.args.n c.if-count-eq0.false)
