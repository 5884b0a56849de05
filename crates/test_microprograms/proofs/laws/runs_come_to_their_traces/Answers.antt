use Rattle.test_microprograms.proofs.Runs.{worked}
use Rattle.test_microprograms.proofs.laws.runs_come_to_their_traces.Goals as goal

pub returns : goal.returns
returns c = worked
