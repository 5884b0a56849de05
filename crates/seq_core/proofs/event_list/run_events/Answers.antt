use Rattle.std.proofs.Common.{Option, refl, sym, ap, subst, ◌∙◌}
use Rattle.seq_core.specs.declared.event_list.Shortage.{Shortage}
use Rattle.seq_core.specs.EventList.{LeftFor, shortage_of}
use Rattle.seq_core.proofs.EventList.{did_none, left_for}
use Rattle.seq_core.proofs.event_list.run_events.Goals as goal

pub returns-in-Err-clause-did : goal.returns-in-Err-clause-did
returns-in-Err-clause-did g c =
    did_none c.args.core.now c.args.events.items c.args.events.items c.reserve.new.self.items refl (c.reserve.ensures.items ∙ c.new-replies.ensures.items)

pub returns-in-Ok-clause-left : goal.returns-in-Ok-clause-left
returns-in-Ok-clause-left g c =
    subst (λ (s : Option Shortage). LeftFor c.args.core.now c.do_in_order.new.core c.args.events.items c.do_in_order.new.replies.items c.do_in_order.new.todo.items s)
    (sym (c.shortage_of-shortage.ensures ∙ ap shortage_of c.as_slice.ensures.value))
    (left_for c.args.core.now c.do_in_order.new.core c.args.events.items c.do_in_order.new.todo.items c.do_in_order.new.replies.items c.do_in_order.ensures.stops)
