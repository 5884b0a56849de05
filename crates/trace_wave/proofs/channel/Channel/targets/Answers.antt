use Rattle.std.proofs.Common.{length, ap, ◌∙◌}
use Rattle.onfi_cycle.specs.State.{TargetView}
use Rattle.std.specs.Prelude.{List}
use Rattle.trace_wave.proofs.Counted.{length_targets}
use Rattle.trace_wave.proofs.channel.Channel.targets.Goals as goal

pub returns-clause-value : goal.returns-clause-value
returns-clause-value c g targets past stands = c.targets.ensures.value ∙ ap (λ (ts : List TargetView). length ts) stands.follows.facts ∙ length_targets g past targets 0
