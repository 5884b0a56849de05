use Rattle.onfiseq_live_c.proofs.Begun.{channels_begin}
use Rattle.onfiseq_live_c.proofs.laws.channels_begin.Goals as goal

pub returns : goal.returns
returns c = channels_begin
