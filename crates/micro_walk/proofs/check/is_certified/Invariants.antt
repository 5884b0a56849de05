use Rattle.std.proofs.Common.{◌≡◌, drop}
use Rattle.micro_claims.specs.Certificate.{all_hold}
use Rattle.micro_claims.specs.Order.{machine}
use Rattle.micro_walk.proofs.check.is_certified.Given as goal

abbrev pub invariant-loop-at : goal.invariant-loop-at
invariant-loop-at l = all_hold (machine l.geometry l.bounds) l.words l.claims 0 l.words ≡ all_hold (machine l.geometry l.bounds) l.words l.claims l.at (drop l.at l.words)
