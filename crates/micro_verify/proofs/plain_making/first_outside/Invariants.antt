use Rattle.std.proofs.Common.{◌≡◌, drop}
use Rattle.micro_verify.specs.Plain.{first_outside}
use Rattle.micro_verify.proofs.plain_making.first_outside.Given as goal

abbrev pub invariant-loop-place : goal.invariant-loop-place
invariant-loop-place l = first_outside l.geometry l.place (drop l.place l.ops) ≡ first_outside l.geometry 0 l.ops
