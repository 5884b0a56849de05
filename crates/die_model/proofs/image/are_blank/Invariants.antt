use Rattle.std.proofs.Common.{◌≡◌, drop}
use Rattle.die_model.specs.Image.{are_blank}
use Rattle.die_model.proofs.image.are_blank.Given as goal

abbrev pub invariant-loop-b : goal.invariant-loop-b
invariant-loop-b l = are_blank (drop l.b-index l.bytes) ≡ are_blank l.bytes
