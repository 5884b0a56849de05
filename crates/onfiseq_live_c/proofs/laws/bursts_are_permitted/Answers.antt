use Rattle.onfiseq_live_c.proofs.Told.{next_permits}
use Rattle.onfiseq_live_c.proofs.laws.bursts_are_permitted.Goals as goal

pub returns : goal.returns
returns c v j file t e g n past f buffer size = next_permits v j file t e g n past f buffer size
