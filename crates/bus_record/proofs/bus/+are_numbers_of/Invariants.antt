use Rattle.std.proofs.Common.{length}
use Rattle.bus_record.proofs.bus.+are_numbers_of.Given as goal

abbrev pub decreases-are_numbers_of : goal.decreases-are_numbers_of
decreases-are_numbers_of l = length l.targets.now
