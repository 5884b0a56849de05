use Rattle.std.proofs.Common.{refl}
use Rattle.onfi_cycle.specs.declared.item.Kind.TheVariants.{Cmd}
use Rattle.onfi_cycle.specs.Channel.{cycle}
use Rattle.bus_record.specs.Kept.{Kept}
use Rattle.bus_record.specs.Trial.{tried_view}
use Rattle.bus_record.proofs.Tried.{tried_limits, tried_numbers, tried_fits, tried_rule, tried_state, tried_after, tried_sound}
use Rattle.bus_record.proofs.trial.try_read_status.Goals as goal

pub step_read_status-requires-clause-limits : goal.step_read_status-requires-clause-limits
step_read_status-requires-clause-limits c =
    let k : Kept = c.args.bus.now in
    tried_limits k c.args.ce c.args.kept.now (c.requires)

pub step_read_status-requires-clause-numbers : goal.step_read_status-requires-clause-numbers
step_read_status-requires-clause-numbers c = tried_numbers c.args.bus.now c.args.ce c.args.kept.now c.requires

pub step_read_status-requires-clause-fits : goal.step_read_status-requires-clause-fits
step_read_status-requires-clause-fits c =
    let k : Kept = c.args.bus.now in
    tried_fits k c.args.ce c.args.kept.now (c.requires)

pub returns-clause-rule : goal.returns-clause-rule
returns-clause-rule c =
    let k : Kept = c.args.bus.now in
    tried_rule k c.args.ce c.args.kept.now (cycle c.args.ce Cmd 0x70) c.step_read_status.result refl (c.requires) c.step_read_status.ensures.rule

pub returns-clause-after : goal.returns-clause-after
returns-clause-after c none =
    let k : Kept = c.args.bus.now in
    let state = (tried_state k c.args.ce c.args.kept.now c.step_read_status.new.kept (cycle c.args.ce Cmd 0x70) refl (c.requires) c.step_read_status.ensures.state) in
    tried_after (tried_view c.args.bus.now c.args.ce c.args.kept.now) (tried_view c.args.bus.now c.args.ce c.step_read_status.new.kept) (cycle c.args.ce Cmd 0x70) c.step_read_status.result (returns-clause-rule c) state none

pub returns-clause-tried : goal.returns-clause-tried
returns-clause-tried c =
    let k : Kept = c.args.bus.now in
    let ce = c.args.ce in
    (tried_sound k ce c.args.kept.now c.step_read_status.new.kept (c.requires) c.step_read_status.ensures.numbers c.step_read_status.ensures.fits)
