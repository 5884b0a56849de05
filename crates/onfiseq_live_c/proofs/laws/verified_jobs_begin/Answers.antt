use Rattle.onfiseq_live_c.proofs.Begun.{verified_jobs_begin}
use Rattle.onfiseq_live_c.proofs.laws.verified_jobs_begin.Goals as goal

pub returns : goal.returns
returns c = verified_jobs_begin
