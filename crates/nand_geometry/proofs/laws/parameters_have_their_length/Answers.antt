use Rattle.nand_geometry.proofs.PageLemmas.{parameters_have_their_length}
use Rattle.nand_geometry.proofs.laws.parameters_have_their_length.Goals as goal

pub returns : goal.returns
returns c = parameters_have_their_length
