use Rattle.program_commands.specs.Commands.{SourceIsRefused}
use Rattle.seq_inputs.proofs.Said.{said}
use Rattle.program_commands.proofs.assembling.assemble_file.Goals as goal

pub returns-in-Err-assemble_at-clause-refused : goal.returns-in-Err-assemble_at-clause-refused
returns-in-Err-assemble_at-clause-refused g c = λ refusal is.
    let k = c.fail.ensures.refused refusal is in
    (said (SourceIsRefused (g.F.Files.store c.args.files.now) c.args.input.now) c.in-Err-assemble_at.stop refusal c.in-Err-assemble_at.ensures.err k.0, c.in-Err-assemble_at.ensures.stays, k.1)
