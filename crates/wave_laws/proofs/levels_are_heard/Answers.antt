use Rattle.wave_laws.proofs.Followed.{are_heard as holds}
use Rattle.wave_laws.proofs.levels_are_heard.Goals as goal

pub returns : goal.returns
returns c = holds
