use Rattle.nand_geometry.proofs.RoundTripLemmas.{parameters_read_back}
use Rattle.nand_geometry.proofs.laws.read_of_parameters.Goals as goal

pub returns : goal.returns
returns c = parameters_read_back
