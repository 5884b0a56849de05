use Rattle.std.proofs.Common.{◌≡◌, ◌+◌, ◌≤◌, length}
use Rattle.micro_asm.specs.Reading.{lines, with_lines, nothing_seen}
use Rattle.micro_asm.specs.Fits.{SeenFits}
use Rattle.micro_asm.specs.Kept.{seen}
use Rattle.micro_asm.proofs.survey.survey_of.Given as goal

abbrev pub invariant-lines : goal.invariant-lines
invariant-lines g l = record { room : l.survey.line + length l.rest ≤ length l.text + 1; fits : SeenFits (seen l.survey); same : with_lines l.last (seen l.survey) (lines l.rest) ≡ with_lines l.last nothing_seen (lines l.text) }

abbrev pub decreases-lines : goal.decreases-lines
decreases-lines g l = length l.rest
