use Rattle.std.proofs.Common.{length}
use Rattle.onfiseq_live_c.proofs.bursts.+try_addresses.Given as goal

abbrev pub decreases-try_addresses : goal.decreases-try_addresses
decreases-try_addresses l = length l.bytes.now
