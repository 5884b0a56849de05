use Rattle.run_once.proofs.Told.{printable}
use Rattle.run_once.proofs.once.tell_run.Goals as goal

pub lines_of-requires : goal.lines_of-requires
lines_of-requires g c = printable c.args.job c.in_ok-core.core.past c.trace.result.now c.in_ok-core.code c.in_ok-core.ensures c.trace.ensures.value
