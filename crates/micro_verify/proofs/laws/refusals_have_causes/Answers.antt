use Rattle.micro_verify.proofs.RefusedWords.{refusals_have_causes}
use Rattle.micro_verify.proofs.laws.refusals_have_causes.Goals as goal

pub returns : goal.returns
returns c = refusals_have_causes
