use Rattle.std.proofs.Common.{◌≡◌, max, drop}
use Rattle.micro_verify.specs.Plain.{rows_of}
use Rattle.micro_verify.proofs.plain_making.rows_of.Given as goal

abbrev pub invariant-loop-op : goal.invariant-loop-op
invariant-loop-op l = max l.rows (rows_of (drop l.op-index l.ops)) ≡ rows_of l.ops
