use Rattle.trace_commands.proofs.Left.{converted}
use Rattle.trace_commands.proofs.capturing.give_capture.Goals as goal

pub returns-in-Ok-clause-ok : goal.returns-in-Ok-clause-ok
returns-in-Ok-clause-ok g c =
    converted (g.F.Files.store c.args.files.now) (g.F.Files.store c.convert_capture.new.files) c.args.request c.args.setup.now c.args.steps.now c.in-Some-empty.path c.in-Some-empty.is-0 c.in-Some-empty.len_below c.in-Ok.ensures.ok
