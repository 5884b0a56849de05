use Rattle.std.proofs.Common.{◌≤◌, ◌-◌, length}
use Rattle.channel_work.specs.Counts.{AreDataFrom}
use Rattle.channel_work.proofs.tally.find_data_end.Given as goal

abbrev pub invariant-loop-at : goal.invariant-loop-at
invariant-loop-at l = record {
  behind : l.fn.from ≤ l.at;
  inside : l.at ≤ length l.trace;
  so_far : AreDataFrom l.ce l.trace l.fn.from l.at;
}

abbrev pub decreases-loop-at : goal.decreases-loop-at
decreases-loop-at l = length l.trace - l.at
