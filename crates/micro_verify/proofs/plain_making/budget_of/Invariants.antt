use Rattle.std.proofs.Common.{◌≡◌, ◌+◌, drop}
use Rattle.micro_verify.specs.Plain.{budget_of}
use Rattle.micro_verify.proofs.plain_making.budget_of.Given as goal

abbrev pub invariant-loop-op : goal.invariant-loop-op
invariant-loop-op l = l.cost + budget_of (drop l.op-index l.ops) ≡ budget_of l.ops
