use Rattle.csv_text.specs.Shown.{HasRoom, bytes_left}
use Rattle.edge_timing.specs.Judged.{MayJudge}
use Rattle.edge_timing.proofs.capture_edges.take_table.Given as goal

abbrev pub invariant-events : goal.invariant-events
invariant-events g l = record {
  judging : MayJudge l.watching.targets l.judge.ruler;
  room : HasRoom l.body;
}

abbrev pub decreases-events : goal.decreases-events
decreases-events g l = bytes_left l.body
