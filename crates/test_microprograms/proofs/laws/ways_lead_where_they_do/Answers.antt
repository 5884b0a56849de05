use Rattle.test_microprograms.proofs.Ways.{worked}
use Rattle.test_microprograms.proofs.laws.ways_lead_where_they_do.Goals as goal

pub returns : goal.returns
returns c = worked
