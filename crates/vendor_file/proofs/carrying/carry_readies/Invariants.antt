use Rattle.std.proofs.Common.{◌≡◌, ◌++◌, drop}
use Rattle.vendor_file.specs.Carried.{carried_readies}
use Rattle.vendor_file.proofs.carrying.carry_readies.Given as goal

abbrev pub invariant-loop-one : goal.invariant-loop-one
invariant-loop-one g l = l.carried.items ++ carried_readies l.places (drop l.one-index l.told) ≡ carried_readies l.places l.told
