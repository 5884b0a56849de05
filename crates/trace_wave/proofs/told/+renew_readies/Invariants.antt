use Rattle.trace_wave.proofs.told.+renew_readies.Given as goal

abbrev pub decreases-renew_readies : goal.decreases-renew_readies
decreases-renew_readies l = l.count
