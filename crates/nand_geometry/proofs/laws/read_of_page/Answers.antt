use Rattle.nand_geometry.proofs.RoundTripLemmas.{pages_read_back}
use Rattle.nand_geometry.proofs.laws.read_of_page.Goals as goal

pub returns : goal.returns
returns c = pages_read_back
