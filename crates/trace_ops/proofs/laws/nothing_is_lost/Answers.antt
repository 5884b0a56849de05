use Rattle.std.proofs.Common.{◌≡◌, ℕ, ◌+◌, ◌∙◌, arith}
use Rattle.trace_faults.specs.Middle.{first_seen_as}
use Rattle.trace_ops.specs.Laws.{is_input, is_output_item, inputs_of, outputs_of, count}
use Rattle.trace_ops.specs.Listing.{has_one_lun, nothing_listed}
use Rattle.trace_ops.proofs.Counted.{count_inputs, count_outputs}
use Rattle.trace_ops.proofs.Walks.{total_all, nobody_within}
use Rattle.trace_ops.proofs.laws.nothing_is_lost.Goals as goal

nothing : (n : ℕ) → 0 + n ≡ n
nothing n = omega arith

pub returns : goal.returns
returns c readies beginning g targets items small =
    let seen = first_seen_as beginning g targets items in
    record {
      inputs = total_all inputs_of is_input count_inputs readies (has_one_lun g) seen 0 items nothing_listed nobody_within (omega (arith, small)) (omega arith) ∙ nothing (count is_input items);
      outputs = total_all outputs_of is_output_item count_outputs readies (has_one_lun g) seen 0 items nothing_listed nobody_within (omega (arith, small)) (omega arith) ∙ nothing (count is_output_item items);
    }
