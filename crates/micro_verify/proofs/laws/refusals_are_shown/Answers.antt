use Rattle.micro_verify.proofs.LazyRows.{refusals_are_shown}
use Rattle.micro_verify.proofs.laws.refusals_are_shown.Goals as goal

pub returns : goal.returns
returns c = refusals_are_shown
