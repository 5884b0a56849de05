use Rattle.std.proofs.Common.{◌≡◌, ◌+◌, drop}
use Rattle.micro_walk.specs.Faults.{before_loops}
use Rattle.micro_walk.proofs.examining.count_before_loops.Given as goal

abbrev pub invariant-loop-place : goal.invariant-loop-place
invariant-loop-place l = before_loops l.words ≡ l.place + before_loops (drop l.place l.words)
