use Rattle.micro_verify.proofs.NewBuses.{new_bus, dies_are, count_one, opened_none, never_dies_missing, never_die_unfit}
use Rattle.micro_verify.proofs.showing.lone_bus.Goals as goal

pub returns-in-Ok : goal.returns-in-Ok
returns-in-Ok g c =
    new_bus c.in-Ok.bus c.args.geometry c.requires c.in-Ok.ensures.value.0 c.in-Ok.ensures.value.1
    (count_one c.in-Ok.bus c.args.geometry c.push.new.self.items c.in-Ok.ensures.value.2 (dies_are c.args.geometry c.push.new.self.items c.in_ok-dies.dies.items c.in_ok-new.field-0 c.in_ok-push.ensures.items c.in_ok-dies.ensures.items c.in_ok-new.ensures)) (opened_none c.in-Ok.bus c.args.geometry c.push.new.self.items c.in-Ok.ensures.opened (dies_are c.args.geometry c.push.new.self.items c.in_ok-dies.dies.items c.in_ok-new.field-0 c.in_ok-push.ensures.items c.in_ok-dies.ensures.items c.in_ok-new.ensures))

pub unreachable-requires : goal.unreachable-requires
unreachable-requires g c =
    never_dies_missing c.args.geometry c.push.new.self.items c.in-Err.refused.fault c.requires (dies_are c.args.geometry c.push.new.self.items c.in_ok-dies.dies.items c.in_ok-new.field-0 c.in_ok-push.ensures.items c.in_ok-dies.ensures.items c.in_ok-new.ensures) c.in-DiesMissing.is c.in-Err.ensures.err.0

pub unreachable-requires-in-DieUnfit : goal.unreachable-requires-in-DieUnfit
unreachable-requires-in-DieUnfit g c =
    never_die_unfit c.args.geometry c.push.new.self.items c.in-Err.refused.fault c.requires (dies_are c.args.geometry c.push.new.self.items c.in_ok-dies.dies.items c.in_ok-new.field-0 c.in_ok-push.ensures.items c.in_ok-dies.ensures.items c.in_ok-new.ensures) c.in-DieUnfit.is c.in-Err.ensures.err.0
