use Rattle.seq_inputs.specs.Inputs.{FileIsRefused}
use Rattle.seq_inputs.proofs.Said.{said}
use Rattle.program_commands.proofs.upgrading.upgrade_file.Goals as goal

pub returns-in-Err-upgrade_at-clause-refused : goal.returns-in-Err-upgrade_at-clause-refused
returns-in-Err-upgrade_at-clause-refused g c = λ refusal is.
    let k = c.fail.ensures.refused refusal is in
    (said (FileIsRefused (g.F.Files.store c.args.files.now) c.args.input.now) c.in-Err-upgrade_at.stop refusal c.in-Err-upgrade_at.ensures.err k.0, c.in-Err-upgrade_at.ensures.stays, k.1)
