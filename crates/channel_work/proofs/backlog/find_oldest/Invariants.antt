use Rattle.channel_work.proofs.Waiting.{IsFinding}
use Rattle.channel_work.proofs.backlog.find_oldest.Given as goal

abbrev pub invariant-loop-at : goal.invariant-loop-at
invariant-loop-at l = IsFinding l.places l.initial.fronts l.from l.fronts l.oldest l.at
