use Rattle.wave_laws.proofs.Named.{names_are_lines as holds}
use Rattle.wave_laws.proofs.names_are_lines.Goals as goal

pub returns : goal.returns
returns c = holds
