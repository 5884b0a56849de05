use Rattle.die_model.proofs.Images.{new_keeps}
use Rattle.die_model.proofs.lun_die.LunDie.new.Goals as goal

pub invariant_of-result : goal.invariant_of-result
invariant_of-result g c =
    new_keeps c.args.geometry c.planes-planes.result c.page_len-len.result c.in_ok-parameter_copies.field-0.items c.new.result c.in_ok-registers.field-0.items c.in_ok-registers-2.field-0.items c.new-3.result.items c.new-4.result.items c.in_ok-blank.field-0
    c.parts-limits.ensures.limits c.in_ok-parameter_copies.ensures c.planes-planes.ensures c.page_len-len.ensures c.new.ensures c.in_ok-registers.ensures c.in_ok-registers-2.ensures c.new-3.ensures c.new-4.ensures c.in_ok-blank.ensures
