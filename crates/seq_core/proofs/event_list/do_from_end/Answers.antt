use Rattle.std.proofs.Common.{arith, refl, reverse}
use Rattle.std.specs.Vec.{vec_len}
use Rattle.seq_core.proofs.EventList.{did_none, did_more, did_same, did_all, stops_there, stops_at_end}
use Rattle.seq_core.proofs.event_list.do_from_end.Goals as goal

pub loop-event-init : goal.loop-event-init
loop-event-init g c = (c.requires.room, did_none c.args.core.now (reverse c.args.todo.now.items) (reverse c.args.todo.now.items) c.args.replies.now.items refl c.requires.none)

pub push_reserved-requires : goal.push_reserved-requires
push_reserved-requires g c = let room = c.loop-event.invariant.0 in let one = c.in-Some.ensures.cases in omega (arith, room, one)

pub loop-event-smaller : goal.loop-event-smaller
loop-event-smaller g c = let one = c.in-Some.ensures.cases in omega (arith, one)

pub loop-event-preserved : goal.loop-event-preserved
loop-event-preserved g c =
    let room = c.loop-event.invariant.0 in
    let one = c.in-Some.ensures.cases in
    let longer = c.push_reserved.ensures.len in
    let same = c.push_reserved.ensures.capacity in (
      omega (arith, room, one, longer, same),
      did_more c.args.core.now c.loop-event.core c.do_event.new.core (reverse c.args.todo.now.items) c.loop-event.todo.items c.pop.new.self.items c.loop-event.replies.items c.push_reserved.new.self.items c.in-Some.event c.in-Ok.reply
          c.loop-event.invariant.1 c.in-Some.ensures.items c.push_reserved.ensures.items c.in-Ok.ensures.ok,
    )

pub returns-in-Err-clause-did : goal.returns-in-Err-clause-did
returns-in-Err-clause-did g c =
    did_same c.args.core.now c.loop-event.core c.do_event.new.core (reverse c.args.todo.now.items) c.loop-event.todo.items c.pop.new.self.items c.push_reserved-in-Err.new.self.items c.loop-event.replies.items c.in-Some.event c.in-Err.undone
    c.loop-event.invariant.1 c.in-Some.ensures.items c.push_reserved-in-Err.ensures.items c.in-Err.ensures.err.0 c.in-Err.ensures.err.1

pub returns-clause-did : goal.returns-clause-did
returns-clause-did g c =
    did_all c.args.core.now c.loop-event.core (reverse c.args.todo.now.items) c.loop-event.todo.items c.pop.new.self.items c.loop-event.replies.items c.loop-event.invariant.1 c.in_default.ensures.items

pub returns-in-Err-clause-stops : goal.returns-in-Err-clause-stops
returns-in-Err-clause-stops g c =
    stops_there c.loop-event.core c.do_event.new.core c.pop.new.self.items c.push_reserved-in-Err.new.self.items c.in-Err.undone c.push_reserved-in-Err.ensures.items c.in-Err.ensures.err.1 c.in-Err.ensures.memory

pub returns-clause-stops : goal.returns-clause-stops
returns-clause-stops g c = stops_at_end c.loop-event.core c.loop-event.todo.items c.pop.new.self.items (vec_len c.loop-event.todo) c.pop.ensures.rest c.in_default.ensures.cases.0
