use Rattle.std.proofs.Common.{◌≡◌}
use Rattle.seq_run.proofs.hosts.store.Given as goal

abbrev pub invariant-loop : goal.invariant-loop
invariant-loop g l = (l.pass ≡ l.fn.pass) × (l.job ≡ l.fn.job)
