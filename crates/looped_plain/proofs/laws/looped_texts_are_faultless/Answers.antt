use Rattle.looped_plain.proofs.Looped.{looped_texts_are_faultless}
use Rattle.looped_plain.proofs.laws.looped_texts_are_faultless.Goals as goal

pub returns : goal.returns
returns c = looped_texts_are_faultless
