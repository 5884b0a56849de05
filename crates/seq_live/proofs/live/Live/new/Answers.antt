use Rattle.seq_live.proofs.Lives.{new_at, new_is_live, is_of}
use Rattle.seq_live.proofs.live.Live.new.Goals as goal

pub invariant_of-result : goal.invariant_of-result
invariant_of-result g c =
    new_is_live c.new.result c.empty_slots-slots.result.items _ c.args.geometry c.args.targets c.lun_count.result c.parts.ensures.limits c.if-targets-gt4.false c.new.ensures c.empty_slots-slots.ensures c.lun_count.ensures.value

pub returns-clause-some : goal.returns-clause-some
returns-clause-some g c = is_of c.args.geometry c.args.targets c.new.result c.new.ensures

pub returns-clause-world : goal.returns-clause-world
returns-clause-world g c =
    new_at c.new.result c.empty_slots-slots.result.items _ c.args.geometry c.args.targets c.lun_count.result c.new.ensures c.empty_slots-slots.ensures c.lun_count.ensures.value
