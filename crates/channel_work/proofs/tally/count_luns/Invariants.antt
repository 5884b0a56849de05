use Rattle.std.proofs.Common.{◌≡◌, ◌≤◌, ◌-◌, reverse, take, length}
use Rattle.channel_work.specs.Counts.{AreCounts}
use Rattle.channel_work.proofs.tally.count_luns.Given as goal

abbrev pub invariant-loop-place : goal.invariant-loop-place
invariant-loop-place l = record {
  long : length l.counted ≡ 16;
  inside : l.place ≤ length l.trace;
  counts : AreCounts l.geometry l.counted (reverse (take l.place l.trace));
}

abbrev pub decreases-loop-place : goal.decreases-loop-place
decreases-loop-place l = length l.trace - l.place
