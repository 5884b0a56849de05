use Rattle.onfiseq_live_c.proofs.Accepted.{other_jobs_break_none}
use Rattle.onfiseq_live_c.proofs.laws.other_jobs_break_none.Goals as goal

pub returns : goal.returns
returns c = other_jobs_break_none
