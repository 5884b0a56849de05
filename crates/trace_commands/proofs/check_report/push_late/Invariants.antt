use Rattle.std.proofs.Common.{◌≡◌, ◌++◌, drop}
use Rattle.std.specs.String.{string_bytes}
use Rattle.trace_commands.specs.Reports.{late_lines}
use Rattle.trace_commands.proofs.check_report.push_late.Given as goal

abbrev pub invariant-loop-violation : goal.invariant-loop-violation
invariant-loop-violation l = string_bytes l.lines ++ late_lines (drop l.violation-index l.late) ≡ string_bytes l.initial.lines ++ late_lines l.late
