use Rattle.nand_geometry.proofs.LimitLemmas.{faultless}
use Rattle.nand_geometry.proofs.laws.faultless_are_in_limits.Goals as goal

pub returns : goal.returns
returns c = faultless
