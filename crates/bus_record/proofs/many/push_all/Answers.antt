use Rattle.std.proofs.Common.{Bool, subst}
use Rattle.onfi_cycle.specs.State.{Follows}
use Rattle.bus_record.specs.Bus.{bus_view}
use Rattle.bus_record.specs.Many.{with_items}
use Rattle.bus_record.proofs.AllPushed.{pushed_follow}
use Rattle.bus_record.proofs.many.push_all.Goals as goal

pub returns-clause-past : goal.returns-clause-past
returns-clause-past c g n past follows =
    subst (λ (w : Bool). Follows g n (bus_view c.push_each.new.bus) (with_items w c.push_each.new.done c.args.items.now past)) c.is_wide-wide.ensures
    (pushed_follow c.is_wide-wide.result g n (bus_view c.args.bus.now) (bus_view c.push_each.new.bus) c.args.items.now c.push_each.result c.push_each.new.done past c.push_each.ensures.went follows)
