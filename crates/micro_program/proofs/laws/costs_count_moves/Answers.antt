use Rattle.micro_program.proofs.Costs.{cost_is}
use Rattle.micro_program.proofs.laws.costs_count_moves.Goals as goal

pub returns : goal.returns
returns c = cost_is
