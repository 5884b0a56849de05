use Rattle.std.proofs.Common.{◌≡◌, ◌+◌, ◌-◌, ◌<◌, ◌≤◌, length}
use Rattle.seq_run.proofs.running.make_passes.Given as goal

abbrev pub invariant-passes : goal.invariant-passes
invariant-passes g l = record {
  few : length l.passes.items ≤ l.wanted;
  taken : l.state.passes ≡ l.fn.state.passes + length l.passes.items;
  most : 0 < length l.passes.items → l.state.passes ≤ 8;
}

abbrev pub decreases-passes : goal.decreases-passes
decreases-passes g l = l.wanted - length l.passes.items
