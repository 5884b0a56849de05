use Rattle.trace_faults.specs.declared.beginning.Beginning.TheVariants.{Start}
use Rattle.trace_faults.specs.Middle.{first_seen_as}
use Rattle.trace_ops.proofs.Wholes.{told_from_start, start_knows_all}
use Rattle.trace_ops.proofs.laws.faults_are_told.Goals as goal

pub returns : goal.returns
returns c readies g targets items = told_from_start readies 0 items (first_seen_as Start g targets items) start_knows_all
