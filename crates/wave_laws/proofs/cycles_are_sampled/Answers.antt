use Rattle.wave_laws.proofs.Cycles.{cycles_are_sampled as holds}
use Rattle.wave_laws.proofs.cycles_are_sampled.Goals as goal

pub returns : goal.returns
returns c = holds
