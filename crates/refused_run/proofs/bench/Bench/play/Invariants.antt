use Rattle.std.proofs.Common.{drop}
use Rattle.refused_run.proofs.Coming.{IsComing}
use Rattle.refused_run.proofs.bench.Bench.play.Given as goal

abbrev pub invariant-loop-item : goal.invariant-loop-item
invariant-loop-item g l = IsComing l.fn.self l.self l.fn.items (drop l.item-index l.fn.items)
