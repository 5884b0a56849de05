use Rattle.std.proofs.Common.{◌≡◌, ◌+◌, ◌≤◌, length}
use Rattle.micro_asm.specs.Judged.{at_start}
use Rattle.micro_asm.specs.Looked.{walked}
use Rattle.micro_asm.specs.Reading.{lines}
use Rattle.micro_asm.proofs.second_look.walk.Given as goal

abbrev pub invariant-lines : goal.invariant-lines
invariant-lines l = record { room : l.at.line + length l.rest ≤ length l.text + 1; same : walked l.last (lines l.text) l.at (lines l.rest) ≡ walked l.last (lines l.text) at_start (lines l.text) }

abbrev pub decreases-lines : goal.decreases-lines
decreases-lines l = length l.rest
