use Rattle.std.proofs.Common.{◌<◌, arith}
use Rattle.bus_record.specs.Kept.{Kept}
use Rattle.bus_record.proofs.Tried.{tried_limits, tried_numbers, tried_fits, tried_outputs_rule, tried_outputs_state, tried_outputs_sound, tried_few}
use Rattle.bus_record.proofs.trial.try_outputs.Goals as goal

pub push_outputs_there-requires-clause-limits : goal.push_outputs_there-requires-clause-limits
push_outputs_there-requires-clause-limits c =
    let k : Kept = c.args.bus.now in
    tried_limits k c.args.ce c.args.kept.now (c.requires)

pub push_outputs_there-requires-clause-numbers : goal.push_outputs_there-requires-clause-numbers
push_outputs_there-requires-clause-numbers c = tried_numbers c.args.bus.now c.args.ce c.args.kept.now c.requires

pub push_outputs_there-requires-clause-fits : goal.push_outputs_there-requires-clause-fits
push_outputs_there-requires-clause-fits c =
    let k : Kept = c.args.bus.now in
    tried_fits k c.args.ce c.args.kept.now (c.requires)

pub push_outputs_there-requires-clause-few : goal.push_outputs_there-requires-clause-few
push_outputs_there-requires-clause-few c none =
    let k : Kept = c.args.bus.now in
    tried_few k c.args.ce c.args.count c.args.kept.now (c.requires) (omega (arith, c.if-count-eq0.false)) none

pub returns-clause-rule : goal.returns-clause-rule
returns-clause-rule c =
    let k : Kept = c.args.bus.now in
    tried_outputs_rule k c.args.ce c.args.count c.args.kept.now c.push_outputs_there.result (c.requires) (omega (arith, c.if-count-eq0.false)) c.push_outputs_there.ensures.rule

pub returns-clause-state : goal.returns-clause-state
returns-clause-state c none =
    let k : Kept = c.args.bus.now in
    let h = c.requires in
    let some : 0 < c.args.count = omega (arith, c.if-count-eq0.false) in
    (tried_outputs_state k c.args.ce c.args.count c.args.kept.now c.push_outputs_there.new.kept c.push_outputs_there.result h some
    (tried_outputs_rule k c.args.ce c.args.count c.args.kept.now c.push_outputs_there.result h some c.push_outputs_there.ensures.rule) c.push_outputs_there.ensures.state none)

pub returns-clause-tried : goal.returns-clause-tried
returns-clause-tried c =
    let k : Kept = c.args.bus.now in
    let h = c.requires in
    (tried_outputs_sound k c.args.ce c.args.count c.args.kept.now c.push_outputs_there.new.kept h (omega (arith, c.if-count-eq0.false)) c.push_outputs_there.ensures.numbers c.push_outputs_there.ensures.state)
