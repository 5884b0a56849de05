use Rattle.bus_capture.proofs.sampling.+moved_from.Given as goal

abbrev pub decreases-moved_from : goal.decreases-moved_from
decreases-moved_from l = l.count
