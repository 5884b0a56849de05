use Rattle.std.proofs.Common.{◌≡◌, drop}
use Rattle.vcd_text.specs.Tokens.{are_bits}
use Rattle.vcd_text.proofs.tokens.are_bits.Given as goal

abbrev pub invariant-loop-byte : goal.invariant-loop-byte
invariant-loop-byte l = are_bits (drop l.byte-index l.bits) ≡ are_bits l.bits
