use Rattle.trace_text.proofs.Printed.{tells_printable}
use Rattle.trace_text.proofs.printing.is_printable.Goals as goal

pub returns : goal.returns
returns c = tells_printable c.are_printable.result c.args.items.now c.are_printable.ensures
