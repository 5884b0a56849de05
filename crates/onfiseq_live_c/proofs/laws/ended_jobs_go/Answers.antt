use Rattle.onfiseq_live_c.proofs.Going.{ended_jobs_go}
use Rattle.onfiseq_live_c.proofs.laws.ended_jobs_go.Goals as goal

pub returns : goal.returns
returns c = ended_jobs_go
