use Rattle.std.proofs.Common.{◌≡◌, ◌++◌, drop}
use Rattle.micro_verify.specs.Plain.{words_from}
use Rattle.micro_verify.proofs.plain_making.words_of.Given as goal

abbrev pub invariant-loop-op : goal.invariant-loop-op
invariant-loop-op g l = l.words.items ++ words_from l.failure (drop l.op-index l.ops) ≡ words_from l.failure l.ops
