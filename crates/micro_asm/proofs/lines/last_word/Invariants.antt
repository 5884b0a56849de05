use Rattle.std.proofs.Common.{◌≡◌, ◌+◌, ◌≤◌, length}
use Rattle.micro_asm.specs.Reading.{lines, last_word}
use Rattle.micro_asm.proofs.lines.last_word.Given as goal

abbrev pub invariant-lines : goal.invariant-lines
invariant-lines l = record { room : l.line + length l.rest ≤ length l.text + 1; same : last_word l.found l.line (lines l.rest) ≡ last_word 0 1 (lines l.text) }

abbrev pub decreases-lines : goal.decreases-lines
decreases-lines l = length l.rest
