use Rattle.std.proofs.Common.{◌≡◌, ◌≤◌}
use Rattle.std.specs.List.{slice_get}
use Rattle.micro_program.specs.Nested.{closer, loops_at}
use Rattle.micro_walk.proofs.shape.closer.Given as goal

abbrev pub invariant-loop-place : goal.invariant-loop-place
invariant-loop-place l =
    record {
      scanned : closer l.words l.at ≡ slice_get (loops_at l.words l.place) l.depth;
      few : l.depth ≤ l.place;
    }
