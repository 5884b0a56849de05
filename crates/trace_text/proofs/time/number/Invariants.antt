use Rattle.std.proofs.Common.{◌≡◌, drop}
use Rattle.trace_text.specs.Recorded.{number, number_from}
use Rattle.trace_text.proofs.time.number.Given as goal

abbrev pub invariant-loop-byte : goal.invariant-loop-byte
invariant-loop-byte l = number_from l.number (drop l.byte-index l.text) ≡ number l.text
