use Rattle.std.proofs.Common.{◌≡◌, length}
use Rattle.micro_asm.specs.Reading.{lines}
use Rattle.seq_inputs.specs.Headed.{begins_with_header}
use Rattle.seq_inputs.proofs.headed.has_header.Given as goal

abbrev pub invariant-lines : goal.invariant-lines
invariant-lines l = begins_with_header (lines l.rest) ≡ begins_with_header (lines l.text)

abbrev pub decreases-lines : goal.decreases-lines
decreases-lines l = length l.rest
