use Rattle.micro_claims.proofs.AcceptedLines.{accepted_is_safe}
use Rattle.micro_claims.proofs.laws.accepted_lines_are_safe.Goals as goal

pub returns : goal.returns
returns c = accepted_is_safe
