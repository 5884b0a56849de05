use Rattle.run_file.proofs.Ascii.{tells}
use Rattle.run_file.proofs.operands.is_ascii.Goals as goal

pub returns : goal.returns
returns c = tells c.args.field.now c.is_ascii.result c.is_ascii.ensures.cases
