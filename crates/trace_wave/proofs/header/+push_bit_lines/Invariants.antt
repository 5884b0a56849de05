use Rattle.trace_wave.proofs.header.+push_bit_lines.Given as goal

abbrev pub decreases-push_bit_lines : goal.decreases-push_bit_lines
decreases-push_bit_lines g l = l.count
