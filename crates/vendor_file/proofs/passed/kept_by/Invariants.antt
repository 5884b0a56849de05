use Rattle.std.proofs.Common.{◌≡◌, ◌++◌, length}
use Rattle.vendor_file.specs.Carried.{kept_by}
use Rattle.vendor_file.proofs.passed.kept_by.Given as goal

abbrev pub invariant-items : goal.invariant-items
invariant-items g l = l.kept.items ++ kept_by l.left l.rest ≡ kept_by l.items l.parts

abbrev pub decreases-items : goal.decreases-items
decreases-items g l = length l.left
