use Rattle.std.proofs.Common.{◌≤◌, arith}
use Rattle.onfi_cycle.specs.State.{without_sequence}
use Rattle.bus_record.specs.Kept.{Kept}
use Rattle.bus_record.proofs.Begun.{stays_beyond, changed_there, keeps_others, sound_dropped}
use Rattle.bus_record.proofs.anew.drop_sequence.Goals as goal

pub returns-then-bus-place-clause-state : goal.returns-then-bus-place-clause-state
returns-then-bus-place-clause-state c =
    let place = c.from-place.ensures in let beyond = c.if-bus-place.true in
    let low : c.args.bus.now.count ≤ c.args.ce = (omega (arith, place, beyond)) in
    stays_beyond without_sequence c.args.bus.now c.args.ce (c.requires) low

pub returns-clause-sound : goal.returns-clause-sound
returns-clause-sound c =
    let k : Kept = c.args.bus.now in
    sound_dropped k c.args.ce c.from-place.result _ c.without_sequence.result c.requires c.from-place.ensures c.if-bus-place.false c.without_sequence.ensures.numbers
    c.without_sequence.ensures.state

pub returns-clause-state : goal.returns-clause-state
returns-clause-state c =
    let k : Kept = c.args.bus.now in
    changed_there without_sequence k c.args.ce c.from-place.result _ c.without_sequence.result c.from-place.ensures c.if-bus-place.false c.without_sequence.ensures.state

pub returns-clause-others : goal.returns-clause-others
returns-clause-others c =
    let k : Kept = c.args.bus.now in
    (keeps_others k c.args.ce c.from-place.result c.without_sequence.result c.from-place.ensures)
