use Rattle.nand_geometry.proofs.RowLemmas.{parts_number}
use Rattle.nand_geometry.proofs.laws.parts_give_the_row.Goals as goal

pub returns : goal.returns
returns c = parts_number
