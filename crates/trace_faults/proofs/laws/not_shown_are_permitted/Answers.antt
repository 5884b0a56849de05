use Rattle.trace_faults.proofs.Shown.{not_shown_are_permitted}
use Rattle.trace_faults.proofs.laws.not_shown_are_permitted.Goals as goal

pub returns : goal.returns
returns c = not_shown_are_permitted
