use Rattle.onfi_cycle.proofs.CommandBytes.{commands_have_bytes}
use Rattle.onfi_cycle.proofs.laws.commands_have_bytes.Goals as goal

pub returns : goal.returns
returns c = commands_have_bytes
