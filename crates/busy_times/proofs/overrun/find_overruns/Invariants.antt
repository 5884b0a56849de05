use Rattle.std.proofs.Common.{◌≡◌, ◌++◌, drop}
use Rattle.busy_times.specs.Overruns.{overruns_in, overruns_of}
use Rattle.busy_times.proofs.overrun.find_overruns.Given as goal

abbrev pub invariant-loop-worker : goal.invariant-loop-worker
invariant-loop-worker g l = l.told.items ++ overruns_in l.ruler l.ops l.marks l.items (drop l.worker-index l.ops) ≡ overruns_of l.ruler l.ops l.marks l.items
