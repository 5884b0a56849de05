use Rattle.micro_program.proofs.Waiting.{unready_is_busy}
use Rattle.micro_program.proofs.laws.unready_is_busy.Goals as goal

pub returns : goal.returns
returns c = unready_is_busy
