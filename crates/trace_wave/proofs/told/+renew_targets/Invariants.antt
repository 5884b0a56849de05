use Rattle.trace_wave.proofs.told.+renew_targets.Given as goal

abbrev pub decreases-renew_targets : goal.decreases-renew_targets
decreases-renew_targets l = l.count
