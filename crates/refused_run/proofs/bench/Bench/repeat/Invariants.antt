use Rattle.std.proofs.Common.{◌-◌, replicate}
use Rattle.refused_run.proofs.Coming.{IsComing}
use Rattle.refused_run.proofs.bench.Bench.repeat.Given as goal

abbrev pub invariant-loop : goal.invariant-loop
invariant-loop g l = IsComing l.fn.self l.self (replicate l.fn.count l.fn.item) (replicate (l.fn.count - l.counter) l.fn.item)
