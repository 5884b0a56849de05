use Rattle.wave_laws.proofs.Readies.{readies_are_seen as holds}
use Rattle.wave_laws.proofs.readies_are_seen.Goals as goal

pub returns : goal.returns
returns c = holds
