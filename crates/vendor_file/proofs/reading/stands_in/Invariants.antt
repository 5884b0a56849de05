use Rattle.std.proofs.Common.{◌≡◌, length}
use Rattle.vendor_file.specs.Lines.{stands_in}
use Rattle.vendor_file.proofs.reading.stands_in.Given as goal

abbrev pub invariant-rest : goal.invariant-rest
invariant-rest l = stands_in l.profile l.line l.rest ≡ stands_in l.profile l.line l.before

abbrev pub decreases-rest : goal.decreases-rest
decreases-rest l = length l.rest
