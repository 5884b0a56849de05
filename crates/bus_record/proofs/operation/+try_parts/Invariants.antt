use Rattle.std.proofs.Common.{length}
use Rattle.bus_record.proofs.operation.+try_parts.Given as goal

abbrev pub decreases-try_parts : goal.decreases-try_parts
decreases-try_parts l = length l.parts.now
