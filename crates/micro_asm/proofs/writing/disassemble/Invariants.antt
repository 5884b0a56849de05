use Rattle.std.proofs.Common.{◌≡◌, ◌++◌, drop}
use Rattle.std.specs.String.{string_bytes}
use Rattle.micro_asm.specs.Assembly.{word_lines, assembly}
use Rattle.micro_asm.proofs.writing.disassemble.Given as goal

abbrev pub invariant-loop-at : goal.invariant-loop-at
invariant-loop-at g l = string_bytes l.lines ++ word_lines l.words l.at (drop l.at l.words) ≡ assembly l.fn.text
