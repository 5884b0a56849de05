use Rattle.bus_capture.proofs.sampler.+push_readies.Given as goal

abbrev pub decreases-push_readies : goal.decreases-push_readies
decreases-push_readies g l = l.count
