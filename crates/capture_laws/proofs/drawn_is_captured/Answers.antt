use Rattle.capture_laws.proofs.Captured.{drawn_is_captured as holds}
use Rattle.capture_laws.proofs.drawn_is_captured.Goals as goal

pub returns : goal.returns
returns c = holds
