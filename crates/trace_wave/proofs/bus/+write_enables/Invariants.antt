use Rattle.trace_wave.proofs.bus.+write_enables.Given as goal

abbrev pub decreases-write_enables : goal.decreases-write_enables
decreases-write_enables l = l.count
