use Rattle.std.proofs.Common.{◌≡◌, None, replicate}
use Rattle.micro_walk.proofs.claim_table.nothing_known.Given as goal

abbrev pub invariant-loop-word : goal.invariant-loop-word
invariant-loop-word g l = l.table.items ≡ replicate l._word None
