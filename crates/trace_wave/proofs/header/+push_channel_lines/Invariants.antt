use Rattle.trace_wave.proofs.header.+push_channel_lines.Given as goal

abbrev pub decreases-push_channel_lines : goal.decreases-push_channel_lines
decreases-push_channel_lines g l = l.count
