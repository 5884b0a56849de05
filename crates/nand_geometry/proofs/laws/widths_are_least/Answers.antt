use Rattle.nand_geometry.proofs.FieldLemmas.{widths_least}
use Rattle.nand_geometry.proofs.laws.widths_are_least.Goals as goal

pub returns : goal.returns
returns c = widths_least
