use Rattle.micro_walk.proofs.CertifiedTexts.{certified_is_safe}
use Rattle.micro_walk.proofs.laws.certified_texts_are_safe.Goals as goal

pub returns : goal.returns
returns c = certified_is_safe
