use Rattle.micro_program.proofs.Unsafe.{truth_is_needed}
use Rattle.micro_program.proofs.laws.truth_is_needed.Goals as goal

pub returns : goal.returns
returns c = truth_is_needed
