use Rattle.std.proofs.Common.{◌≡◌, ◌++◌, drop}
use Rattle.trace_timing.specs.Watch.{watch_begun, told_from, watched}
use Rattle.trace_timing.proofs.watch.find_violations.Given as goal

abbrev pub invariant-loop-number : goal.invariant-loop-number
invariant-loop-number g l = record {
  told : told_from l.ruler watch_begun 0 l.items ≡ l.told.items ++ told_from l.ruler l.watch l.number (drop l.number l.items);
  seen : watched l.ruler watch_begun l.items ≡ watched l.ruler l.watch (drop l.number l.items);
}
