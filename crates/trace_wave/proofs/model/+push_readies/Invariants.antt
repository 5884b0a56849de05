use Rattle.trace_wave.proofs.model.+push_readies.Given as goal

abbrev pub decreases-push_readies : goal.decreases-push_readies
decreases-push_readies l = l.count
