use Rattle.recording_laws.proofs.Whole.{whole_checks_arent_void as holds}
use Rattle.recording_laws.proofs.whole_checks_arent_void.Goals as goal

pub returns : goal.returns
returns c = holds
