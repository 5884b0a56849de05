use Rattle.std.proofs.Common.{◌≡◌, length, drop}
use Rattle.micro_walk.specs.Faults.{followed}
use Rattle.micro_walk.proofs.following.first_fault.Given as goal

abbrev pub invariant-loop-at : goal.invariant-loop-at
invariant-loop-at l =
    record {
      long : length l.known ≡ length l.words;
      so_far : followed l.geometry l.bounds l.fn.known 0 l.words ≡ followed l.geometry l.bounds l.known l.at (drop l.at l.words);
    }
