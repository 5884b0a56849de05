use Rattle.trace_wave.proofs.model.+some_busy.Given as goal

abbrev pub decreases-some_busy : goal.decreases-some_busy
decreases-some_busy l = l.count
