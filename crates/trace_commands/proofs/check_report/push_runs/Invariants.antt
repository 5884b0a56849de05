use Rattle.std.proofs.Common.{◌≡◌, ◌++◌, drop}
use Rattle.std.specs.String.{string_bytes}
use Rattle.trace_commands.specs.Reports.{run_lines}
use Rattle.trace_commands.proofs.check_report.push_runs.Given as goal

abbrev pub invariant-loop-run : goal.invariant-loop-run
invariant-loop-run l = string_bytes l.lines ++ run_lines (drop l.run-index l.runs) ≡ string_bytes l.initial.lines ++ run_lines l.runs
