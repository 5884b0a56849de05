use Rattle.onfi_cycle.specs.Outputs.{given_on}
use Rattle.bus_record.proofs.Changed.{first_mapped, first_numbers}
use Rattle.bus_record.proofs.run.+give_from.Goals as goal

pub returns-clause-value : goal.returns-clause-value
returns-clause-value m c =
    first_mapped (given_on c.args.count) c.args.luns.now c.split_at_mut-first.result.0.now c.split_at_mut-first.result.1.now c.give_from.new.luns c.give.new.lun _ c.split_at_mut-first.ensures.value c.split_at_mut-first.ensures.front_len
    c.give.ensures.value c.give_from.ensures.value

pub returns-clause-numbers : goal.returns-clause-numbers
returns-clause-numbers m c = first_numbers c.split_at_mut-first.result.0.now c.give_from.new.luns c.give.new.lun c.split_at_mut-first.ensures.front_len c.give.ensures.numbers c.give_from.ensures.numbers
