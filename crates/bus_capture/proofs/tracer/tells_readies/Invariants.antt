use Rattle.std.proofs.Common.{◌≡◌, drop}
use Rattle.bus_capture.specs.Capturing.{tells_readies}
use Rattle.bus_capture.proofs.tracer.tells_readies.Given as goal

abbrev pub invariant-loop-source : goal.invariant-loop-source
invariant-loop-source l = tells_readies (drop l.source-index l.sources) ≡ tells_readies l.sources
