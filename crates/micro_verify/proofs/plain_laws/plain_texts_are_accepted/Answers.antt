use Rattle.micro_verify.proofs.PlainTexts.{plain_texts_are_accepted}
use Rattle.micro_verify.proofs.plain_laws.plain_texts_are_accepted.Goals as goal

pub returns : goal.returns
returns c = plain_texts_are_accepted
