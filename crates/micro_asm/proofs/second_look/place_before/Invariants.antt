use Rattle.std.proofs.Common.{◌≡◌, ◌+◌, ◌≤◌, length}
use Rattle.micro_asm.specs.Judged.{at_start}
use Rattle.micro_asm.specs.Looked.{looked}
use Rattle.micro_asm.specs.Reading.{lines}
use Rattle.micro_asm.proofs.second_look.place_before.Given as goal

abbrev pub invariant-lines : goal.invariant-lines
invariant-lines l = record { room : l.at.line + length l.rest ≤ length l.text + 1; same : looked l.last l.name l.until l.at (lines l.rest) ≡ looked l.last l.name l.until at_start (lines l.text) }

abbrev pub decreases-lines : goal.decreases-lines
decreases-lines l = length l.rest
