use Rattle.micro_lint.proofs.least_number.Search.ended.Goals as goal

pub narrowed-search-requires-clause-fit : goal.narrowed-search-requires-clause-fit
narrowed-search-requires-clause-fit g c = rw c.loop-search.invariant.words c.requires.fit
