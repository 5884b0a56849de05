use Rattle.onfiseq_live_c.proofs.Accepted.{standing_jobs_break_none}
use Rattle.onfiseq_live_c.proofs.laws.standing_jobs_break_none.Goals as goal

pub returns : goal.returns
returns c = standing_jobs_break_none
