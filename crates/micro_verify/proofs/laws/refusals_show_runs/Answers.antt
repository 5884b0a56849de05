use Rattle.micro_verify.proofs.ShownRuns.{refusals_show_runs}
use Rattle.micro_verify.proofs.laws.refusals_show_runs.Goals as goal

pub returns : goal.returns
returns c = refusals_show_runs
