use Rattle.trace_wave.proofs.model.+push_targets.Given as goal

abbrev pub decreases-push_targets : goal.decreases-push_targets
decreases-push_targets l = l.count
