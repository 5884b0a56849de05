use Rattle.std.proofs.Common.{refl}
use Rattle.onfi_cycle.specs.Sequence.{target_of as target_of_item}
use Rattle.bus_record.specs.Kept.{Kept}
use Rattle.bus_record.specs.Trial.{tried_view}
use Rattle.bus_record.proofs.Tried.{tried_limits, tried_numbers, tried_fits, tried_rule, tried_state, tried_after, tried_sound}
use Rattle.bus_record.proofs.trial.try_item.Goals as goal

pub step_target-requires-clause-limits : goal.step_target-requires-clause-limits
step_target-requires-clause-limits c =
    let k : Kept = c.args.bus.now in
    tried_limits k (target_of_item c.args.item) c.args.kept.now (c.requires)

pub step_target-requires-clause-numbers : goal.step_target-requires-clause-numbers
step_target-requires-clause-numbers c = tried_numbers c.args.bus.now (target_of_item c.args.item) c.args.kept.now c.requires

pub step_target-requires-clause-fits : goal.step_target-requires-clause-fits
step_target-requires-clause-fits c =
    let k : Kept = c.args.bus.now in
    tried_fits k (target_of_item c.args.item) c.args.kept.now (c.requires)

pub returns-clause-rule : goal.returns-clause-rule
returns-clause-rule c =
    let k : Kept = c.args.bus.now in
    tried_rule k (target_of_item c.args.item) c.args.kept.now c.args.item c.step_target.result refl (c.requires) c.step_target.ensures.rule

pub returns-clause-state : goal.returns-clause-state
returns-clause-state c =
    let k : Kept = c.args.bus.now in
    let ce = target_of_item c.args.item in
    (tried_state k ce c.args.kept.now c.step_target.new.kept c.args.item refl (c.requires) c.step_target.ensures.state)

pub returns-clause-after : goal.returns-clause-after
returns-clause-after c none =
    tried_after (tried_view c.args.bus.now (target_of_item c.args.item) c.args.kept.now) (tried_view c.args.bus.now (target_of_item c.args.item) c.step_target.new.kept) c.args.item c.step_target.result (returns-clause-rule c) (returns-clause-state c) none

pub returns-clause-tried : goal.returns-clause-tried
returns-clause-tried c =
    let k : Kept = c.args.bus.now in
    let ce = target_of_item c.args.item in
    (tried_sound k ce c.args.kept.now c.step_target.new.kept (c.requires) c.step_target.ensures.numbers c.step_target.ensures.fits)
