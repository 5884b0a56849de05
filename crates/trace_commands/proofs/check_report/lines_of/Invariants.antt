use Rattle.std.proofs.Common.{◌≡◌, ◌++◌, drop}
use Rattle.std.specs.String.{string_bytes}
use Rattle.trace_commands.specs.Reports.{fault_lines}
use Rattle.trace_commands.proofs.check_report.lines_of.Given as goal

abbrev pub invariant-loop-fault : goal.invariant-loop-fault
invariant-loop-fault l = string_bytes l.lines ++ fault_lines (drop l.fault-index l.told) ≡ fault_lines l.told
