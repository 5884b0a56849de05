use Rattle.std.proofs.Common.{◌≡◌, ◌+◌, drop, ◌++◌}
use Rattle.std.specs.String.{string_bytes}
use Rattle.seq_run.specs.Lines.{job_lines}
use Rattle.seq_run.specs.Written.{codes_of}
use Rattle.seq_run.proofs.job_ends.push_job_lines.Given as goal

abbrev pub invariant-loop-k : goal.invariant-loop-k
invariant-loop-k l =
    string_bytes l.text ++ job_lines (l.k + 1) (codes_of (drop l.k l.jobs)) ≡ string_bytes l.initial.text ++ job_lines 1 (codes_of l.jobs)
