use Rattle.bus_capture.proofs.sampler.+push_releases.Given as goal

abbrev pub decreases-push_releases : goal.decreases-push_releases
decreases-push_releases g l = l.count
