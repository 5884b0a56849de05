use Rattle.std.proofs.Common.{◌≡◌, drop}
use Rattle.micro_walk.specs.Shape.{first_where, is_misshapen}
use Rattle.micro_walk.proofs.shape.first_misshapen.Given as goal

abbrev pub invariant-loop-at : goal.invariant-loop-at
invariant-loop-at l =
    first_where (is_misshapen l.reason l.words) 0 l.words ≡ first_where (is_misshapen l.reason l.words) l.at (drop l.at l.words)
