use Rattle.std.proofs.Common.{◌≡◌, Some, drop}
use Rattle.micro_claims.specs.State.{first_state}
use Rattle.micro_walk.specs.Faults.{walked}
use Rattle.micro_walk.proofs.examining.first_fault.Given as goal

abbrev pub invariant-loop-place : goal.invariant-loop-place
invariant-loop-place l =
    walked l.geometry l.bounds 0 (Some first_state) l.words ≡ walked l.geometry l.bounds l.place l.known (drop l.place l.words)
