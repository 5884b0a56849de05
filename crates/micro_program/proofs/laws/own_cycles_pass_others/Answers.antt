use Rattle.micro_program.proofs.Passing.{own_cycles_pass_others}
use Rattle.micro_program.proofs.laws.own_cycles_pass_others.Goals as goal

pub returns : goal.returns
returns c = own_cycles_pass_others
