use Rattle.std.proofs.Common.{length}
use Rattle.test_microprograms.specs.Noted.{noted}
use Rattle.test_microprograms.proofs.Noted.{AreLeft}
use Rattle.test_microprograms.proofs.noted_pins.note_all.Given as goal

abbrev pub invariant-rest : goal.invariant-rest
invariant-rest l = AreLeft l.ce l.kind l.bytes l.rest (noted l.has_all l.fn.cycles.items) (noted l.whole l.cycles.items)

abbrev pub decreases-rest : goal.decreases-rest
decreases-rest l = length l.rest
