use Rattle.std.proofs.Common.{length}
use Rattle.trace_data.specs.Data.{AreGoing}
use Rattle.trace_data.proofs.replaying.tell_items.Given as goal

abbrev pub invariant-rest : goal.invariant-rest
invariant-rest l = AreGoing l.known l.initial.bus l.bus l.initial.told.items l.told.items l.items l.rest l.works

abbrev pub decreases-rest : goal.decreases-rest
decreases-rest l = length l.rest
