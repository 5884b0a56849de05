use Rattle.nand_geometry.proofs.ReadingLemmas.{fields_decide}
use Rattle.nand_geometry.proofs.laws.fields_decide.Goals as goal

pub returns : goal.returns
returns c = fields_decide
