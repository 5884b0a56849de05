use Rattle.std.proofs.Common.{◌≡◌, ◌++◌, length}
use Rattle.vendor_file.specs.Carried.{up_to, beyond}
use Rattle.vendor_file.proofs.carrying.push_up_to.Given as goal

abbrev pub invariant-rest : goal.invariant-rest
invariant-rest g l = (l.all.items ++ up_to l.item l.rest ≡ l.initial.all.items ++ up_to l.item l.broken) × (beyond l.item l.rest ≡ beyond l.item l.broken)

abbrev pub decreases-rest : goal.decreases-rest
decreases-rest g l = length l.rest
