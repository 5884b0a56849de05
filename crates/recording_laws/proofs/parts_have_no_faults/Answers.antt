use Rattle.recording_laws.proofs.Parts.{parts_have_no_faults as holds}
use Rattle.recording_laws.proofs.parts_have_no_faults.Goals as goal

pub returns : goal.returns
returns c = holds
