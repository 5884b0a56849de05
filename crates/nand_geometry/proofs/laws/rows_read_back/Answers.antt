use Rattle.nand_geometry.proofs.RowLemmas.{rows_back}
use Rattle.nand_geometry.proofs.laws.rows_read_back.Goals as goal

pub returns : goal.returns
returns c = rows_back
