use Rattle.seq_core.proofs.Alone.{alone_programs_end}
use Rattle.seq_core.proofs.laws.alone_programs_end.Goals as goal

pub returns : goal.returns
returns c = alone_programs_end
