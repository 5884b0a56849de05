use Rattle.trace_text.proofs.RecordedTexts as texts
use Rattle.trace_text.proofs.laws.recorded_takes_strict.Goals as goal

pub returns : goal.returns
returns c = texts.recorded_takes_strict
