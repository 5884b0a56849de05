use Rattle.std.proofs.Common.{◌≡◌, ◌+◌, ◌≤◌, length}
use Rattle.micro_asm.specs.Judged.{at_start}
use Rattle.micro_asm.specs.Looked.{lost, labels_in}
use Rattle.micro_asm.specs.Reading.{lines}
use Rattle.micro_asm.proofs.second_look.find_lost_branch.Given as goal

abbrev pub invariant-lines : goal.invariant-lines
invariant-lines l = record { room : l.at.line + length l.rest ≤ length l.text + 1; same : lost l.last l.end.words (labels_in l.last (lines l.text) l.end) l.at (lines l.rest) ≡ lost l.last l.end.words (labels_in l.last (lines l.text) l.end) at_start (lines l.text) }

abbrev pub decreases-lines : goal.decreases-lines
decreases-lines l = length l.rest
