use Rattle.std.proofs.Common.{arith}
use Rattle.target_record.specs.Geometry.{parts_of}
use Rattle.target_record.specs.Record.{tail_of, target_of}
use Rattle.bus_record.proofs.FeatureBytes.{bytes_taken, had_few, not_too_many, too_many}
use Rattle.bus_record.proofs.run.push_feature_bytes.Goals as goal

pub overflow_sub-left : goal.overflow_sub-left
overflow_sub-left c = let few = had_few (parts_of c.args.geometry.now) c.args.kept.now c.requires.fits c.requires.takes in omega (arith, few)

pub returns-then-left-count-clause-rule : goal.returns-then-left-count-clause-rule
returns-then-left-count-clause-rule c =
    let few = had_few (parts_of c.args.geometry.now) c.args.kept.now c.requires.fits c.requires.takes in
    too_many (parts_of c.args.geometry.now) c.args.count (tail_of c.args.kept.now) c.requires.takes (omega (arith, few, c.if-left-count.true))

pub apply_each-requires-clause-few : goal.apply_each-requires-clause-few
apply_each-requires-clause-few c =
    let few = had_few (parts_of c.args.geometry.now) c.args.kept.now c.requires.fits c.requires.takes in
    omega (arith, few, c.if-left-count.false)

pub returns-clause-rule : goal.returns-clause-rule
returns-clause-rule c =
    let few = had_few (parts_of c.args.geometry.now) c.args.kept.now c.requires.fits c.requires.takes in
    not_too_many (parts_of c.args.geometry.now) c.args.count (tail_of c.args.kept.now) c.requires.takes (omega (arith, few, c.if-left-count.false))

pub returns-clause-state : goal.returns-clause-state
returns-clause-state c = bytes_taken (parts_of c.args.geometry.now) c.args.ce c.args.count (target_of c.args.kept.now) _ c.requires.takes c.apply_each.ensures.value
