use Rattle.std.proofs.Common.{◌≡◌, max, drop}
use Rattle.micro_verify.specs.Plain.{buffer_of}
use Rattle.micro_verify.proofs.plain_making.buffer_of.Given as goal

abbrev pub invariant-loop-op : goal.invariant-loop-op
invariant-loop-op l = max l.end (buffer_of (drop l.op-index l.ops)) ≡ buffer_of l.ops
