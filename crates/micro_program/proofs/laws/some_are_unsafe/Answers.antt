use Rattle.micro_program.proofs.Unsafe.{some_are_unsafe}
use Rattle.micro_program.proofs.laws.some_are_unsafe.Goals as goal

pub returns : goal.returns
returns c = some_are_unsafe
