use Rattle.oracle_onfi.proofs.past.+firsts_from.Given as goal

abbrev pub decreases-firsts_from : goal.decreases-firsts_from
decreases-firsts_from l = l.count
