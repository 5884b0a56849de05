use Rattle.std.proofs.Common.{◌≡◌, ◌≤◌, length, take}
use Rattle.channel_work.specs.Rows.{somes}
use Rattle.channel_work.proofs.backlog.count_jobs.Given as goal

abbrev pub invariant-loop-place : goal.invariant-loop-place
invariant-loop-place l = (l.count ≡ length (somes (take l.place l.places))) × (l.count ≤ l.place)
