use Rattle.onfiseq_live_c.proofs.Verified.{verified_jobs_break_none}
use Rattle.onfiseq_live_c.proofs.laws.verified_jobs_break_none.Goals as goal

pub returns : goal.returns
returns c = verified_jobs_break_none
