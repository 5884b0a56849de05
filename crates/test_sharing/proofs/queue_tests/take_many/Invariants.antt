use Rattle.std.proofs.Common.{◌≡◌}
use Rattle.test_sharing.proofs.queue_tests.take_many.Given as goal

abbrev pub invariant-loop : goal.invariant-loop
invariant-loop g l = (l.taker.table ≡ l.initial.taker.table) × (l.taker.hosts ≡ l.initial.taker.hosts)
