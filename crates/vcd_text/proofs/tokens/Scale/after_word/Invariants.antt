use Rattle.std.proofs.Common.{◌≡◌, drop}
use Rattle.vcd_text.specs.Tokens.{scale_from}
use Rattle.vcd_text.proofs.tokens.Scale.after_word.Given as goal

abbrev pub invariant-loop-byte : goal.invariant-loop-byte
invariant-loop-byte l = scale_from l.scale (drop l.byte-index l.word) ≡ scale_from l.fn.self l.word
