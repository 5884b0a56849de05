use Rattle.wave_laws.proofs.Dumps.{drawn as holds}
use Rattle.wave_laws.proofs.drawn_is_told.Goals as goal

pub returns : goal.returns
returns c = holds
