use Rattle.std.proofs.Common.{◌≡◌, drop, map, ◌++◌}
use Rattle.seq_files.specs.Store.{written_of}
use Rattle.seq_run.specs.Written.{buffers_of}
use Rattle.seq_run.proofs.writing.list_buffers.Given as goal

abbrev pub invariant-loop-job : goal.invariant-loop-job
invariant-loop-job l = map written_of l.files.items ++ buffers_of (drop l.job-index l.jobs) ≡ map written_of l.initial.files.items ++ buffers_of l.jobs
