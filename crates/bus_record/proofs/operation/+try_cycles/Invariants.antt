use Rattle.std.proofs.Common.{length}
use Rattle.bus_record.proofs.operation.+try_cycles.Given as goal

abbrev pub decreases-try_cycles : goal.decreases-try_cycles
decreases-try_cycles l = length l.bytes.now
