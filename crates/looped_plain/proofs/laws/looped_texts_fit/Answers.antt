use Rattle.looped_plain.proofs.Fitting.{looped_texts_fit}
use Rattle.looped_plain.proofs.laws.looped_texts_fit.Goals as goal

pub returns : goal.returns
returns c = looped_texts_fit
