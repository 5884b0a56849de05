use Rattle.std.proofs.Common.{◌≡◌, length}
use Rattle.std.specs.Prelude.{find}
use Rattle.nand_geometry.specs.Reading.{is_good, whole_copies}
use Rattle.trace_timing.proofs.page_times.PageTimes.read.Given as goal

-- the copies that are left have the same first good one
abbrev pub invariant-copies : goal.invariant-copies
invariant-copies l = find is_good (whole_copies l.rest) ≡ find is_good (whole_copies l.page)

abbrev pub decreases-copies : goal.decreases-copies
decreases-copies l = length l.rest
