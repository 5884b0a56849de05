use Rattle.std.proofs.Common.{◌≡◌, length, arith, rules}
use Rattle.bus_record.proofs.Sound.{sound_is}
use Rattle.bus_record.proofs.bus.are_sound.Goals as goal

pub returns-then-are_numbers_of-clause-sound : goal.returns-then-are_numbers_of-clause-sound
returns-then-are_numbers_of-clause-sound c whole =
    let full : length c.args.bus.now.targets ≡ 4 = search rules in
    let few = c.if-bus-gt4.false in
    sound_is c.args.bus.now full (omega (arith, few)) (c.are_numbers_of.ensures.numbers c.if-are_numbers_of.true) (c.are_whole.ensures.whole whole)
