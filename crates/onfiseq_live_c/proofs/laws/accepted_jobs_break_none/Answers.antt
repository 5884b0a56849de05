use Rattle.onfiseq_live_c.proofs.Accepted.{accepted_jobs_break_none}
use Rattle.onfiseq_live_c.proofs.laws.accepted_jobs_break_none.Goals as goal

pub returns : goal.returns
returns c = accepted_jobs_break_none
