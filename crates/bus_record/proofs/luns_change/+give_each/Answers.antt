use Rattle.std.proofs.Common.{◌+◌, refl, true}
use Rattle.onfi_cycle.specs.declared.target_cycle.TargetCycle.TheVariants.{OutputCycle}
use Rattle.bus_record.proofs.Changed.{first_changed, first_numbers}
use Rattle.bus_record.proofs.luns_change.+give_each.Goals as goal

pub returns-clause-value : goal.returns-clause-value
returns-clause-value m c g t n =
    first_changed g t true OutputCycle n (n + 1) c.args.luns.now c.split_at_mut-first.result.0.now c.split_at_mut-first.result.1.now
    c.give_each.new.luns c.give.new.kept _ c.split_at_mut-first.ensures.value c.split_at_mut-first.ensures.front_len refl (c.give.ensures.value g t n) (c.give_each.ensures.value g t (n + 1))

pub returns-clause-numbers : goal.returns-clause-numbers
returns-clause-numbers m c = first_numbers c.split_at_mut-first.result.0.now c.give_each.new.luns c.give.new.kept c.split_at_mut-first.ensures.front_len c.give.ensures.numbers c.give_each.ensures.numbers
