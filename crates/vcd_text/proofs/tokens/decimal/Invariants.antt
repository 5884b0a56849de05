use Rattle.std.proofs.Common.{◌≡◌, drop}
use Rattle.vcd_text.specs.Tokens.{decimal, decimal_from}
use Rattle.vcd_text.proofs.tokens.decimal.Given as goal

abbrev pub invariant-loop-byte : goal.invariant-loop-byte
invariant-loop-byte l = decimal_from l.number (drop l.byte-index l.word) ≡ decimal l.word
