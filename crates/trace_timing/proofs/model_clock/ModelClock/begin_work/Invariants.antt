use Rattle.std.proofs.Common.{◌≡◌}
use Rattle.trace_timing.proofs.model_clock.ModelClock.begin_work.Given as goal

abbrev pub invariant-loop-lun : goal.invariant-loop-lun
invariant-loop-lun l = l.self ≡ l.initial.self
