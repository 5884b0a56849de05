use Rattle.std.proofs.Common.{Some}
use Rattle.seq_run.specs.Hosted.{origin_of}
use Rattle.run_plan.specs.Planned.{jobs_of}
use Rattle.seq_run.proofs.running.run_as_planned.Given as goal

abbrev pub ghosts-run_channel-L-Ledger : goal.ghosts-run_channel-L-Ledger
ghosts-run_channel-L-Ledger g a = record { name = a.blank.name; parts = a.blank.parts }

abbrev pub ghosts-run_channel-L-Turns : goal.ghosts-run_channel-L-Turns
ghosts-run_channel-L-Turns g a = record { all = a.blank.parts; origin = Some (origin_of a.core a.queue.queue) }

abbrev pub ghosts-run_channel-L-RunName : goal.ghosts-run_channel-L-RunName
ghosts-run_channel-L-RunName g a = record { table = a.queue.queue.table; jobs = jobs_of a.by_target.items }
