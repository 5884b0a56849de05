use Rattle.std.proofs.Common.{◌≡◌, ◌++◌, drop}
use Rattle.trace_data.specs.Runs.{run_of, runs_from}
use Rattle.trace_data.proofs.difference_run.push_runs.Given as goal

abbrev pub invariant-loop-next : goal.invariant-loop-next
invariant-loop-next l = l.runs.items ++ runs_from l.run (drop l.next-index l.rest) ≡ l.initial.runs.items ++ runs_from (run_of l.fn.first) l.rest
