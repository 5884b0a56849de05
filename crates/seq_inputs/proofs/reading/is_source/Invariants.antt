use Rattle.std.proofs.Common.{◌≡◌, length}
use Rattle.seq_inputs.specs.Inputs.{is_source}
use Rattle.seq_inputs.proofs.reading.is_source.Given as goal

abbrev pub invariant-blanks : goal.invariant-blanks
invariant-blanks l = is_source l.rest ≡ is_source l.bytes

abbrev pub decreases-blanks : goal.decreases-blanks
decreases-blanks l = length l.rest
