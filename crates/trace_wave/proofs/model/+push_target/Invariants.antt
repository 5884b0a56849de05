use Rattle.trace_wave.proofs.model.+push_target.Given as goal

abbrev pub decreases-push_target : goal.decreases-push_target
decreases-push_target l = l.count
