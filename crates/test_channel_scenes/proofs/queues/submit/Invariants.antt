use Rattle.std.proofs.Common.{◌≡◌}
use Rattle.test_channel_scenes.proofs.queues.submit.Given as goal

abbrev pub invariant-loop : goal.invariant-loop
invariant-loop g l = l.pass.table ≡ l.fn.pass.table
