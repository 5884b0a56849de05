use Rattle.trace_text.proofs.RecordedTexts.{tells_timed}
use Rattle.trace_text.proofs.recorded_printing.is_recording_printable.Goals as goal

pub returns : goal.returns
returns c = tells_timed c.are_printable.result c.args.items.now c.are_printable.ensures
