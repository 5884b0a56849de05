use Rattle.nand_geometry.proofs.Numbered.{page_faults_are_numbered}
use Rattle.nand_geometry.proofs.laws.page_faults_are_numbered.Goals as goal

pub returns : goal.returns
returns c = page_faults_are_numbered
