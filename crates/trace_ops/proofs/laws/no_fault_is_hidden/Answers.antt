use Rattle.trace_faults.specs.Middle.{first_seen_as}
use Rattle.trace_ops.specs.Listing.{has_one_lun, nothing_listed}
use Rattle.trace_ops.proofs.Walks.{told_all, nobody_within}
use Rattle.trace_ops.proofs.laws.no_fault_is_hidden.Goals as goal

pub returns : goal.returns
returns c readies beginning g targets items n said k s unclean mark =
    told_all readies (has_one_lun g) (first_seen_as beginning g targets items) 0 items nothing_listed n said k nobody_within s unclean mark
