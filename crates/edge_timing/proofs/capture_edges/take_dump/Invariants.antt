use Rattle.std.proofs.Common.{◌+◌, ◌<◌, ◌^◌, length}
use Rattle.edge_timing.specs.Judged.{MayJudge}
use Rattle.edge_timing.proofs.capture_edges.take_dump.Given as goal

abbrev pub invariant-events : goal.invariant-events
invariant-events g l = record {
  judging : MayJudge l.watching.targets l.judge.ruler;
  room : l.body.words.line + length l.body.words.rest.now < 2 ^ 64;
}

abbrev pub decreases-events : goal.decreases-events
decreases-events g l = length l.body.words.rest.now
