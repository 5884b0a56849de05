use Rattle.std.proofs.Common.{◌≡◌, length}
use Rattle.micro_asm.specs.Line.{fields}
use Rattle.micro_asm.proofs.fields.next_field.Given as goal

abbrev pub invariant-blanks : goal.invariant-blanks
invariant-blanks l = fields l.rest ≡ fields l.text

abbrev pub decreases-blanks : goal.decreases-blanks
decreases-blanks l = length l.rest
