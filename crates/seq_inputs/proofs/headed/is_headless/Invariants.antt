use Rattle.std.proofs.Common.{◌≡◌, length}
use Rattle.micro_asm.specs.Reading.{lines}
use Rattle.seq_inputs.specs.Headed.{begins_with_word}
use Rattle.seq_inputs.proofs.headed.is_headless.Given as goal

abbrev pub invariant-lines : goal.invariant-lines
invariant-lines l = begins_with_word (lines l.rest) ≡ begins_with_word (lines l.bytes)

abbrev pub decreases-lines : goal.decreases-lines
decreases-lines l = length l.rest
