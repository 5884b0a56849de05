use Rattle.std.proofs.Common.{◌<◌, arith}
use Rattle.bus_record.specs.Kept.{Kept}
use Rattle.bus_record.proofs.Tried.{tried_limits, tried_numbers, tried_fits, tried_inputs_rule, tried_inputs_state, tried_inputs_sound}
use Rattle.bus_record.proofs.trial.try_inputs.Goals as goal

pub push_inputs_there-requires-clause-limits : goal.push_inputs_there-requires-clause-limits
push_inputs_there-requires-clause-limits c =
    let k : Kept = c.args.bus.now in
    tried_limits k c.args.ce c.args.kept.now (c.requires)

pub push_inputs_there-requires-clause-numbers : goal.push_inputs_there-requires-clause-numbers
push_inputs_there-requires-clause-numbers c = tried_numbers c.args.bus.now c.args.ce c.args.kept.now c.requires

pub push_inputs_there-requires-clause-fits : goal.push_inputs_there-requires-clause-fits
push_inputs_there-requires-clause-fits c =
    let k : Kept = c.args.bus.now in
    tried_fits k c.args.ce c.args.kept.now (c.requires)

pub returns-clause-rule : goal.returns-clause-rule
returns-clause-rule c =
    let k : Kept = c.args.bus.now in
    tried_inputs_rule k c.args.ce c.args.count c.args.kept.now c.push_inputs_there.result (c.requires) (omega (arith, c.if-count-eq0.false)) c.push_inputs_there.ensures.rule

pub returns-clause-state : goal.returns-clause-state
returns-clause-state c none =
    let k : Kept = c.args.bus.now in
    let h = c.requires in
    let some : 0 < c.args.count = omega (arith, c.if-count-eq0.false) in
    (tried_inputs_state k c.args.ce c.args.count c.args.kept.now c.push_inputs_there.new.kept c.push_inputs_there.result h some
    (tried_inputs_rule k c.args.ce c.args.count c.args.kept.now c.push_inputs_there.result h some c.push_inputs_there.ensures.rule) c.push_inputs_there.ensures.state none)

pub returns-clause-tried : goal.returns-clause-tried
returns-clause-tried c =
    let k : Kept = c.args.bus.now in
    let h = c.requires in
    (tried_inputs_sound k c.args.ce c.args.count c.args.kept.now c.push_inputs_there.new.kept h (omega (arith, c.if-count-eq0.false)) c.push_inputs_there.ensures.numbers c.push_inputs_there.ensures.state)
