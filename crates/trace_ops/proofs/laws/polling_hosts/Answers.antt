use Rattle.trace_ops.proofs.PolledLines.{polled}
use Rattle.trace_ops.proofs.laws.polling_hosts.Goals as goal

pub returns : goal.returns
returns c g targets items ce d is one ends rests = polled g targets items ce d is one ends rests
