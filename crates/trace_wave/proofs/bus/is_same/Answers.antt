use Rattle.std.proofs.Common.{sym, ◌∙◌}
use Rattle.trace_wave.proofs.Lists.{same_option}
use Rattle.trace_wave.proofs.bus.is_same.Goals as goal

pub returns : goal.returns
returns c h = same_option c.args.before c.args.after (sym c.eq.ensures ∙ h)
