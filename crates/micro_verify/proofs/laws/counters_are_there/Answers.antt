use Rattle.micro_verify.proofs.CountersThere.{counters_are_there}
use Rattle.micro_verify.proofs.laws.counters_are_there.Goals as goal

pub returns : goal.returns
returns c = counters_are_there
