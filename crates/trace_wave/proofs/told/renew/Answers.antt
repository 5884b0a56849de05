use Rattle.std.proofs.Common.{◌++◌, take, ap, ◌∙◌, true, rules}
use Rattle.trace_wave.specs.Levels.{readies}
use Rattle.trace_wave.proofs.Renewed.{renewed}
use Rattle.trace_wave.proofs.told.renew.Goals as goal

pub returns-clause-value : goal.returns-clause-value
returns-clause-value c =
    renewed c.args.code _ (take c.args.place c.args.room.now) (take c.renew_readies-place.result c.renew_readies-place.new.room) (take c.renew_targets.result c.renew_targets.new.room)
    c.args.kept.now _ _ c.renew_readies-place.new.kept c.renew_targets.new.kept c.split_at_mut-readies.ensures.value
    (search rules) (search rules) c.renew_readies-place.ensures.value c.renew_targets.ensures.value

pub returns-clause-kept : goal.returns-clause-kept
returns-clause-kept c p past stands same =
    ap (λ xs. xs ++ c.renew_targets.new.kept) (c.renew_readies-place.ensures.kept p c.args.targets past stands (search rules))
    ∙ ap (λ xs. readies true p past c.args.targets 0 ++ xs) (c.renew_targets.ensures.kept p c.args.targets past stands same (search rules))
