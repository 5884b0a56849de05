use Rattle.micro_verify.proofs.PlainTexts.{plain_texts_are_faultless}
use Rattle.micro_verify.proofs.plain_laws.plain_texts_are_faultless.Goals as goal

pub returns : goal.returns
returns c = plain_texts_are_faultless
