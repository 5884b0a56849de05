use Rattle.trace_wave.proofs.bus.+put_enables.Given as goal

abbrev pub decreases-put_enables : goal.decreases-put_enables
decreases-put_enables l = l.count
