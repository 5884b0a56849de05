use Rattle.target_record.proofs.Fitting.{whole_taken}
use Rattle.target_record.proofs.whole.whole_records_are_taken.Goals as goal

pub returns : goal.returns
returns c = whole_taken
