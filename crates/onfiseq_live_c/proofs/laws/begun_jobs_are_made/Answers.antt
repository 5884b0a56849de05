use Rattle.onfiseq_live_c.proofs.Made.{begun_jobs_are_made}
use Rattle.onfiseq_live_c.proofs.laws.begun_jobs_are_made.Goals as goal

pub returns : goal.returns
returns c = begun_jobs_are_made
