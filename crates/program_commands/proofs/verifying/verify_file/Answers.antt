use Rattle.std.proofs.Common.{◌≡◌}
use Rattle.program_commands.specs.Commands.{VerifyRefuses}
use Rattle.seq_inputs.proofs.Said.{said_else}
use Rattle.program_commands.proofs.Said.{left}
use Rattle.program_commands.proofs.verifying.verify_file.Goals as goal

pub returns-in-Err-verify_at-clause-refused : goal.returns-in-Err-verify_at-clause-refused
returns-in-Err-verify_at-clause-refused g c = λ refusal is.
    let k = c.fail_as.ensures.refused refusal is in
    (said_else (VerifyRefuses (g.F.Files.store c.args.files.now) (g.F.Files.store c.verify_at.new.files) c.args.request.page c.args.request.input.now c.args.request.counter) (g.F.Files.store c.verify_at.new.files ≡ g.F.Files.store c.args.files.now) c.in-Err-verify_at.stop refusal c.in-Err-verify_at.ensures.err k.0, k.1)

pub returns-in-Err-verify_at-clause-files : goal.returns-in-Err-verify_at-clause-files
returns-in-Err-verify_at-clause-files g c =
    left (g.F.Files.store c.args.files.now) (g.F.Files.store c.verify_at.new.files) c.args.request.page c.args.request.input.now c.args.request.counter c.in-Err-verify_at.stop c.in-Err-verify_at.ensures.err
