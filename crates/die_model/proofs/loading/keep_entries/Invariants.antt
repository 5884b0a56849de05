use Rattle.die_model.proofs.Images.{IsKeptSoFar}
use Rattle.die_model.proofs.loading.keep_entries.Given as goal

abbrev pub invariant-loop-k : goal.invariant-loop-k
invariant-loop-k g l = IsKeptSoFar l.geometry l.count l.k l.rest l.entries l.pages
