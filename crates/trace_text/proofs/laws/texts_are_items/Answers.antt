use Rattle.trace_text.proofs.Texts as texts
use Rattle.trace_text.proofs.laws.texts_are_items.Goals as goal

pub returns : goal.returns
returns c = texts.texts_are_items
