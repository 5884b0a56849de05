use Rattle.std.proofs.Common.{◌≡◌, drop}
use Rattle.vendor_file.specs.Passing.{next_address}
use Rattle.vendor_file.proofs.passing.next_address.Given as goal

abbrev pub invariant-loop-item : goal.invariant-loop-item
invariant-loop-item l = next_address l.ce (drop l.item-index l.later) ≡ next_address l.ce l.later
