use Rattle.std.proofs.Common.{◌+◌, ◌≤◌, reverse}
use Rattle.std.specs.Vec.{vec_len, vec_capacity}
use Rattle.seq_core.specs.EventList.{DidEvents}
use Rattle.seq_core.proofs.event_list.do_from_end.Given as goal

abbrev pub invariant-loop-event : goal.invariant-loop-event
invariant-loop-event g l =
    (vec_len l.replies + vec_len l.todo ≤ vec_capacity l.replies) × DidEvents l.fn.core (reverse l.fn.todo.items) l.replies.items (reverse l.todo.items) l.core

abbrev pub decreases-loop-event : goal.decreases-loop-event
decreases-loop-event g l = vec_len l.todo
