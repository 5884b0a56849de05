use Rattle.micro_program.proofs.Strides.{answered_goes_well}
use Rattle.micro_program.proofs.laws.answered_steps_go_well.Goals as goal

pub returns : goal.returns
returns c = answered_goes_well
