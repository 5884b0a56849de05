use Rattle.std.proofs.Common.{◌≡◌, drop}
use Rattle.edge_timing.specs.Watched.{with_given}
use Rattle.edge_timing.proofs.given.Given.give.Given as goal

abbrev pub invariant-loop-source : goal.invariant-loop-source
invariant-loop-source l = with_given (drop l.source-index l.sources) l.code l.self.of ≡ with_given l.sources l.code l.initial.self.of
