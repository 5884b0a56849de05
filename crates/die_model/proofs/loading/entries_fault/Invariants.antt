use Rattle.die_model.proofs.Images.{IsFaultSoFar}
use Rattle.die_model.proofs.loading.entries_fault.Given as goal

abbrev pub invariant-loop-k : goal.invariant-loop-k
invariant-loop-k l = IsFaultSoFar l.geometry l.count l.k l.least l.rest l.entries
