use Rattle.seq_inputs.specs.Inputs.{FileIsRefused}
use Rattle.seq_inputs.proofs.Said.{said}
use Rattle.program_commands.proofs.disassembling.disassemble_file.Goals as goal

pub returns-in-Err-disassemble_at-clause-refused : goal.returns-in-Err-disassemble_at-clause-refused
returns-in-Err-disassemble_at-clause-refused g c = λ refusal is.
    let k = c.fail.ensures.refused refusal is in
    (said (FileIsRefused (g.F.Files.store c.args.files.now) c.args.input.now) c.in-Err-disassemble_at.stop refusal c.in-Err-disassemble_at.ensures.err k.0, k.1)
