use Rattle.oracle_onfi.proofs.content.+identifiers.Given as goal

abbrev pub decreases-identifiers : goal.decreases-identifiers
decreases-identifiers l = l.count
