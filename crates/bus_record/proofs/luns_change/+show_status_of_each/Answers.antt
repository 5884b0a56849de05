use Rattle.onfi_cycle.specs.declared.effect.Effect.TheVariants.{StatusSelected}
use Rattle.onfi_cycle.specs.Lun.{view_after}
use Rattle.bus_record.proofs.Changed.{first_mapped, first_numbers}
use Rattle.bus_record.proofs.luns_change.+show_status_of_each.Goals as goal

pub returns-clause-value : goal.returns-clause-value
returns-clause-value n c =
    first_mapped (view_after StatusSelected) c.args.luns.now c.split_at_mut-first.result.0.now c.split_at_mut-first.result.1.now c.show_status_of_each.new.luns c.show_status.new.kept _ c.split_at_mut-first.ensures.value c.split_at_mut-first.ensures.front_len
    c.show_status.ensures.value c.show_status_of_each.ensures.value

pub returns-clause-numbers : goal.returns-clause-numbers
returns-clause-numbers n c = first_numbers c.split_at_mut-first.result.0.now c.show_status_of_each.new.luns c.show_status.new.kept c.split_at_mut-first.ensures.front_len c.show_status.ensures.numbers c.show_status_of_each.ensures.numbers
