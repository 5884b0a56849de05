use Rattle.trace_text.proofs.printing.print.Goals as goal

pub from_utf8_unchecked-requires : goal.from_utf8_unchecked-requires
from_utf8_unchecked-requires g c = c.in_ok-bytes.ensures.utf8
