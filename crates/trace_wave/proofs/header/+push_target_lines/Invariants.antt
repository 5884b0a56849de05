use Rattle.trace_wave.proofs.header.+push_target_lines.Given as goal

abbrev pub decreases-push_target_lines : goal.decreases-push_target_lines
decreases-push_target_lines g l = l.count
