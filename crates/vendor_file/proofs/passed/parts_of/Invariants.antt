use Rattle.std.proofs.Common.{◌≡◌, ◌++◌, length}
use Rattle.vendor_file.specs.Passing.{parts_of, parts_from}
use Rattle.vendor_file.proofs.passed.parts_of.Given as goal

abbrev pub invariant-rest : goal.invariant-rest
invariant-rest g l = l.parts.items ++ parts_from l.steps l.readies l.passing l.rest ≡ parts_of l.steps l.readies l.geometry l.targets l.items

abbrev pub decreases-rest : goal.decreases-rest
decreases-rest g l = length l.rest
