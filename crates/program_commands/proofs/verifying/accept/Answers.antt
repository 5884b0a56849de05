use Rattle.program_commands.proofs.CountersPrinted.{told_printable}
use Rattle.program_commands.proofs.verifying.accept.Goals as goal

pub show_run-requires : goal.show_run-requires
show_run-requires g c =
    told_printable c.in-Err.refused.refusal c.in-Refusal.word c.in-Refusal.reason c.in-Refusal.run' c.args.geometry c.args.text c.in-Refusal.is c.in-Err.ensures.refused.0
