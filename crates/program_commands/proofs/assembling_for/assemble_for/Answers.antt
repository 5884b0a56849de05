use Rattle.program_commands.proofs.CountedHeaders.{reason_said, safe_words}
use Rattle.program_commands.proofs.assembling_for.assemble_for.Goals as goal

pub returns-in-Ok-verify_headed-clause-ok : goal.returns-in-Ok-verify_headed-clause-ok
returns-in-Ok-verify_headed-clause-ok g c =
    safe_words c.args.geometry c.args.bytes.now c.in-Ok.found.1 c.in_ok-text.text c.in-Ok-verify_headed.verified.text c.in-Ok.ensures.ok c.in_ok-text.ensures.words
    c.in-Ok-verify_headed.ensures.same c.in-Ok-verify_headed.ensures.safe c.in-Ok-verify_headed.ensures.faultless c.in_ok-text.ensures.least

pub returns-clause-err : goal.returns-clause-err
returns-clause-err g c =
    reason_said c.args.geometry c.args.bytes.now c.in-Ok.found.1 c.in_ok-text.text c.in-Err-verify_headed.stop c.in-Ok.ensures.ok c.in_ok-text.ensures.words c.in-Err-verify_headed.ensures.err
