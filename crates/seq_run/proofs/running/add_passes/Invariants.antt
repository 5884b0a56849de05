use Rattle.std.specs.List.{All}
use Rattle.seq_run.specs.Hosted.{StoredTheirs}
use Rattle.seq_run.proofs.running.add_passes.Given as goal

abbrev pub invariant-loop-host : goal.invariant-loop-host
invariant-loop-host g l = All (StoredTheirs g.L.RunName.table g.L.RunName.jobs) l.passes.items
