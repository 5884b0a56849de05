use Rattle.std.proofs.Common.{◌≡◌, ◌+◌, ◌≤◌, drop}
use Rattle.micro_verify.specs.Plain.{operations_len}
use Rattle.micro_verify.proofs.plain_making.fill_a_text.Given as goal

abbrev pub invariant-loop-op : goal.invariant-loop-op
invariant-loop-op l =
    record {
      counted : l.left + operations_len l.ops ≡ 1022 + operations_len (drop l.op-index l.ops);
      most : l.left ≤ 1022;
    }
