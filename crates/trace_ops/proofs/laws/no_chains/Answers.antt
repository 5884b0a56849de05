use Rattle.trace_faults.specs.Middle.{first_seen_as}
use Rattle.trace_ops.specs.Listing.{has_one_lun, nothing_listed}
use Rattle.trace_ops.proofs.Walks.{nobody_within}
use Rattle.trace_ops.proofs.Chains.{lines_all, nobody_sound}
use Rattle.trace_ops.proofs.laws.no_chains.Goals as goal

pub returns : goal.returns
returns c readies beginning g targets items k o parent is h =
    lines_all readies (has_one_lun g) (first_seen_as beginning g targets items) 0 items nothing_listed nobody_within nobody_sound k o parent is h
