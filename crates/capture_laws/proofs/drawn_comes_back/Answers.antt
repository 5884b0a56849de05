use Rattle.capture_laws.proofs.Captured.{drawn_comes_back as holds}
use Rattle.capture_laws.proofs.drawn_comes_back.Goals as goal

pub returns : goal.returns
returns c = holds
