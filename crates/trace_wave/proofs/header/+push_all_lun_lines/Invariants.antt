use Rattle.trace_wave.proofs.header.+push_all_lun_lines.Given as goal

abbrev pub decreases-push_all_lun_lines : goal.decreases-push_all_lun_lines
decreases-push_all_lun_lines g l = l.count
