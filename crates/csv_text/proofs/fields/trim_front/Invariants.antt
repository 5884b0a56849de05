use Rattle.std.proofs.Common.{◌≡◌, length}
use Rattle.csv_text.specs.Fields.{trim_front}
use Rattle.csv_text.proofs.fields.trim_front.Given as goal

abbrev pub invariant-blanks : goal.invariant-blanks
invariant-blanks l = trim_front l.rest ≡ trim_front l.text

abbrev pub decreases-blanks : goal.decreases-blanks
decreases-blanks l = length l.rest
