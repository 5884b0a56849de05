use Rattle.seq_inputs.specs.declared.exit.Exit.TheVariants as exit
use Rattle.program_commands.proofs.Lints.{exit_is}
use Rattle.program_commands.proofs.Said.{said_kept, stays}
use Rattle.program_commands.proofs.linting.lint_file.Goals as goal

pub returns-clause-refused : goal.returns-clause-refused
returns-clause-refused g c = λ refusal is.
    let k = c.fail_as.ensures.refused refusal (exit_is c.fail_as.result (exit.Refused refusal) is) in
    (said_kept (g.F.Files.store c.args.files.now) (g.F.Files.store c.verify_at.new.files) c.args.request.page c.args.request.input.now c.in-Err-verify_at.stop refusal c.in-Err-verify_at.ensures.err k.0, k.1)

pub returns-clause-stays : goal.returns-clause-stays
returns-clause-stays g c =
    stays (g.F.Files.store c.args.files.now) (g.F.Files.store c.verify_at.new.files) c.args.request.page c.args.request.input.now c.in-Err-verify_at.stop c.in-Err-verify_at.ensures.err
