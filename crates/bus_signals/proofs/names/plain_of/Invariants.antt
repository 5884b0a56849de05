use Rattle.std.proofs.Common.{◌≡◌, drop}
use Rattle.bus_signals.specs.Names.{plain_from, plain_of}
use Rattle.bus_signals.proofs.names.plain_of.Given as goal

abbrev pub invariant-loop-byte : goal.invariant-loop-byte
invariant-loop-byte l = plain_from l.number (drop l.byte-index l.name) ≡ plain_of l.name
