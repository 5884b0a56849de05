use Rattle.std.proofs.Common.{◌≡◌, ◌+◌, drop}
use Rattle.micro_verify.specs.Plain.{operations_len}
use Rattle.micro_verify.proofs.plain_making.words_len.Given as goal

abbrev pub invariant-loop-op : goal.invariant-loop-op
invariant-loop-op l = l.len + operations_len (drop l.op-index l.ops) ≡ operations_len l.ops
