use Rattle.nand_geometry.proofs.RowLemmas.{indices_distinct}
use Rattle.nand_geometry.proofs.laws.indices_are_distinct.Goals as goal

pub returns : goal.returns
returns c = indices_distinct
