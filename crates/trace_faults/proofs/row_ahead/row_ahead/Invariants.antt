use Rattle.std.proofs.Common.{◌≡◌, length}
use Rattle.trace_faults.specs.RowAhead.{row_ahead}
use Rattle.trace_faults.proofs.row_ahead.row_ahead.Given as goal

abbrev pub invariant-rest : goal.invariant-rest
invariant-rest l = row_ahead l.ce l.now l.rest ≡ row_ahead l.ce l.fn.coming l.later

abbrev pub decreases-rest : goal.decreases-rest
decreases-rest l = length l.rest
