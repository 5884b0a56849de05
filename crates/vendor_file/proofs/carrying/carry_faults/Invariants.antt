use Rattle.std.proofs.Common.{◌≡◌, ◌++◌, drop}
use Rattle.vendor_file.specs.Carried.{carried_faults}
use Rattle.vendor_file.proofs.carrying.carry_faults.Given as goal

abbrev pub invariant-loop-fault : goal.invariant-loop-fault
invariant-loop-fault g l = l.carried.items ++ carried_faults l.places (drop l.fault-index l.faults) ≡ carried_faults l.places l.faults
