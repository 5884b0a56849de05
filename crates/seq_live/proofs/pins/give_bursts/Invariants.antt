use Rattle.std.proofs.Common.{ℕ, List, length}
use Rattle.seq_live.specs.Burst.{AllFit}
use Rattle.seq_live.specs.Calls.{HasBuffer, live_slot}
use Rattle.seq_live.proofs.Driven.{AreLeft}
use Rattle.seq_live.proofs.pins.give_bursts.Given as goal

abbrev pub invariant-rest : goal.invariant-rest
invariant-rest g l = (buffer : List ℕ) → HasBuffer (live_slot l.live l.lun) buffer → AllFit (length buffer) l.bursts → AreLeft buffer l.bursts l.rest (g.P.Pins.driven l.fn.pins) (g.P.Pins.driven l.pins)

abbrev pub decreases-rest : goal.decreases-rest
decreases-rest g l = length l.rest
