use Rattle.micro_program.proofs.Strides.{fine_step}
use Rattle.micro_program.proofs.laws.fine_steps_go_well.Goals as goal

pub returns : goal.returns
returns c = fine_step
