use Rattle.micro_asm.proofs.Numbered.{asm_faults_are_numbered}
use Rattle.micro_asm.proofs.laws.asm_faults_are_numbered.Goals as goal

pub returns : goal.returns
returns c = asm_faults_are_numbered
