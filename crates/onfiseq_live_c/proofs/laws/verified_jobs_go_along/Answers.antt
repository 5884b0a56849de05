use Rattle.onfiseq_live_c.proofs.Stepped.{verified_jobs_go_along}
use Rattle.onfiseq_live_c.proofs.laws.verified_jobs_go_along.Goals as goal

pub returns : goal.returns
returns c = verified_jobs_go_along
