use Rattle.std.proofs.Common.{◌≡◌}
use Rattle.test_channel_threads.proofs.scene_tests.store_all.Given as goal

abbrev pub invariant-loop-number : goal.invariant-loop-number
invariant-loop-number g l = l.pass.table ≡ l.fn.pass.table
