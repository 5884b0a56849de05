use Rattle.trace_wave.proofs.told.+renew_target.Given as goal

abbrev pub decreases-renew_target : goal.decreases-renew_target
decreases-renew_target l = l.count
