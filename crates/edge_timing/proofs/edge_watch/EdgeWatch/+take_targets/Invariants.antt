use Rattle.edge_timing.proofs.edge_watch.EdgeWatch.+take_targets.Given as goal

abbrev pub decreases-take_targets : goal.decreases-take_targets
decreases-take_targets g l = l.count
