use Rattle.std.proofs.Common.{◌≡◌, drop}
use Rattle.bus_signals.specs.Spots.{spot_from}
use Rattle.bus_signals.proofs.spot.Spot.after_word.Given as goal

abbrev pub invariant-loop-byte : goal.invariant-loop-byte
invariant-loop-byte l = spot_from l.spot (drop l.byte-index l.word) ≡ spot_from l.fn.self l.word
