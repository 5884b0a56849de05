use Rattle.std.proofs.Common.{length}
use Rattle.onfi_cycle.proofs.held.+hold_reads.Given as goal

abbrev pub decreases-hold_reads : goal.decreases-hold_reads
decreases-hold_reads l = length l.queue.now
