use Rattle.std.proofs.Common.{refl}
use Rattle.test_microprograms.specs.Noted.{noted}
use Rattle.test_microprograms.proofs.Noted.{one_less, none_left}
use Rattle.test_microprograms.proofs.noted_pins.note_all.Goals as goal

pub rest-preserved : goal.rest-preserved
rest-preserved c =
    one_less c.args.ce c.args.kind c.args.bytes.now c.rest.rest.now c.in-Some.behind.now c.in-Some.byte.now (record { ce = c.args.ce; kind = c.args.kind; byte = c.in-Some.byte.now }) (noted c.args.has_all c.args.cycles.now.items) (noted c.rest.whole c.rest.cycles.items)
    (noted c.note-whole.result c.note-whole.new.cycles.items) c.in-Some.ensures.cases.0 refl c.note-whole.ensures c.rest.invariant

pub returns : goal.returns
returns c = none_left c.args.ce c.args.kind c.args.bytes.now c.rest.rest.now (noted c.args.has_all c.args.cycles.now.items) (noted c.rest.whole c.rest.cycles.items) c.in_default.ensures.cases c.rest.invariant
