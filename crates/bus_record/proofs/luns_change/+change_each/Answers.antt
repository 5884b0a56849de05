use Rattle.onfi_cycle.specs.Lun.{view_after}
use Rattle.bus_record.proofs.Changed.{first_mapped, first_numbers}
use Rattle.bus_record.proofs.luns_change.+change_each.Goals as goal

pub returns-clause-value : goal.returns-clause-value
returns-clause-value n c =
    first_mapped (view_after c.args.effect) c.args.luns.now c.split_at_mut-first.result.0.now c.split_at_mut-first.result.1.now c.change_each.new.luns c.change.new.kept _ c.split_at_mut-first.ensures.value c.split_at_mut-first.ensures.front_len
    c.change.ensures.value c.change_each.ensures.value

pub returns-clause-numbers : goal.returns-clause-numbers
returns-clause-numbers n c = first_numbers c.split_at_mut-first.result.0.now c.change_each.new.luns c.change.new.kept c.split_at_mut-first.ensures.front_len c.change.ensures.numbers c.change_each.ensures.numbers
