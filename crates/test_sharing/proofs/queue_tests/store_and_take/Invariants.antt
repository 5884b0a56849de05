use Rattle.std.proofs.Common.{◌≡◌}
use Rattle.test_sharing.proofs.queue_tests.store_and_take.Given as goal

abbrev pub invariant-loop-job : goal.invariant-loop-job
invariant-loop-job g l = l.pass.table ≡ l.fn.pass.table
