use Rattle.std.proofs.Common.{◌≡◌}
use Rattle.test_channel_scenes.proofs.queues.submit_erases.Given as goal

abbrev pub invariant-loop-erase : goal.invariant-loop-erase
invariant-loop-erase g l = l.pass.table ≡ l.fn.pass.table
