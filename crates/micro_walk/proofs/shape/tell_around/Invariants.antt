use Rattle.std.proofs.Common.{◌≡◌, ◌≤◌, length}
use Rattle.micro_walk.specs.Shape.{TellsFrom}
use Rattle.micro_walk.proofs.shape.tell_around.Given as goal

abbrev pub invariant-loop-at : goal.invariant-loop-at
invariant-loop-at l =
    record {
      inside : l.at ≤ length l.words;
      size : length l.table ≡ 1025;
      told : TellsFrom l.words l.at l.table;
    }

abbrev pub decreases-loop-at : goal.decreases-loop-at
decreases-loop-at l = l.at
