use Rattle.trace_faults.specs.Middle.{first_seen_as}
use Rattle.trace_ops.specs.Listing.{has_one_lun, nothing_listed}
use Rattle.std.proofs.Common.{[], refl}
use Rattle.std.proofs.lemmas.List.Elements.{All-nil}
use Rattle.trace_ops.proofs.Walks.{as_many, are_there, span_all, nobody_within}
use Rattle.trace_ops.proofs.laws.each_item_belongs.Goals as goal

pub returns : goal.returns
returns c readies beginning g targets items =
    let seen = first_seen_as beginning g targets items in
    record {
      as_many = as_many readies (has_one_lun g) seen 0 items nothing_listed;
      are_there = are_there readies (has_one_lun g) seen 0 items nothing_listed nobody_within;
      span = span_all readies (has_one_lun g) seen 0 items nothing_listed [] nobody_within refl (All-nil _) (λ k o h. cc);
    }
