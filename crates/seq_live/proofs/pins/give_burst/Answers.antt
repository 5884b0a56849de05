use Rattle.std.proofs.Common.{◌≡◌, rules, length}
use Rattle.seq_live.specs.Calls.{live_slot}
use Rattle.seq_live.proofs.Driven.{command_given, address_given, input_given, output_given}
use Rattle.seq_live.proofs.pins.give_burst.Goals as goal

pub returns-in-Command : goal.returns-in-Command
returns-in-Command g c = λ buffer has fit. command_given buffer c.in-Command.ce c.in-Command.byte c.args.burst (g.P.Pins.driven c.args.pins.now) (g.P.Pins.driven c.give.new.self) c.in-Command.is c.give.ensures

pub returns-in-Address : goal.returns-in-Address
returns-in-Address g c = λ buffer has fit.
    let same : c.as_slice.result.now ≡ c.in-Address.five = search rules in
    let size : length c.as_slice.result.now ≡ 5 = search rules in
    address_given buffer c.in-Address.five c.as_slice.result.now c.part_of-bytes.result.now c.in-Address.ce c.in-Address.from c.in-Address.count c.from.result c.from-in-Address.result c.args.burst (g.P.Pins.driven c.args.pins.now)
    (g.P.Pins.driven c.give-in-Address.new.self) c.in-Address.is fit same size c.from.ensures c.from-in-Address.ensures c.part_of-bytes.ensures c.give-in-Address.ensures

pub returns-in-Some : goal.returns-in-Some
returns-in-Some g c = λ buffer has fit.
    input_given buffer c.in-Some.buffer.now c.part_of.result.now c.in-Input.ce c.in-Input.place c.in-Input.len c.args.burst (live_slot c.args.live.now c.args.lun) (g.P.Pins.driven c.args.pins.now) (g.P.Pins.driven c.give-in-Some.new.self)
    c.in-Input.is fit has c.in-Some.ensures.some c.part_of.ensures c.give-in-Some.ensures

pub returns-in-Output : goal.returns-in-Output
returns-in-Output g c = λ buffer has fit. output_given buffer c.in-Output.ce c.in-Output.len c.args.burst (g.P.Pins.driven c.args.pins.now) c.in-Output.is
