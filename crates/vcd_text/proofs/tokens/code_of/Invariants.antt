use Rattle.std.proofs.Common.{◌≡◌, drop}
use Rattle.vcd_text.specs.Tokens.{code_of, code_from}
use Rattle.vcd_text.proofs.tokens.code_of.Given as goal

abbrev pub invariant-loop-byte : goal.invariant-loop-byte
invariant-loop-byte l = code_from l.number (drop l.byte-index l.word) ≡ code_of l.word
