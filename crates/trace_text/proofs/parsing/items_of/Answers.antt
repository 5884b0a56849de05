use Rattle.std.proofs.Common.{◌+◌, length}
use Rattle.trace_text.proofs.Loop.{is_done}
use Rattle.trace_text.proofs.parsing.items_of.Goals as goal

pub returns-in-Ok-None-clause-ok : goal.returns-in-Ok-None-clause-ok
returns-in-Ok-None-clause-ok g c =
    let empty = rw c.in-Ok-None.field-0-is at c.in-Ok-None.ensures.ok in
    is_done c.args.profile (length c.lines.items.items + 1) c.lines.rest.now c.args.text.now c.lines.items.items empty c.lines.invariant.so_far
