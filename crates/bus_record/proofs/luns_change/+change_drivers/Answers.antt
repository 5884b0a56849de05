use Rattle.bus_record.specs.Changing.{driven}
use Rattle.bus_record.proofs.Changed.{first_mapped, first_numbers}
use Rattle.bus_record.proofs.luns_change.+change_drivers.Goals as goal

pub returns-clause-value : goal.returns-clause-value
returns-clause-value n c =
    first_mapped (driven c.args.effect) c.args.luns.now c.split_at_mut-first.result.0.now c.split_at_mut-first.result.1.now c.change_drivers.new.luns c.change_driving.new.kept _ c.split_at_mut-first.ensures.value c.split_at_mut-first.ensures.front_len
    c.change_driving.ensures.value c.change_drivers.ensures.value

pub returns-clause-numbers : goal.returns-clause-numbers
returns-clause-numbers n c = first_numbers c.split_at_mut-first.result.0.now c.change_drivers.new.luns c.change_driving.new.kept c.split_at_mut-first.ensures.front_len c.change_driving.ensures.numbers c.change_drivers.ensures.numbers
