use Rattle.std.proofs.Common.{◌≡◌, ◌++◌, drop}
use Rattle.std.specs.String.{string_bytes}
use Rattle.trace_commands.specs.Reports.{assumed_lines}
use Rattle.trace_commands.proofs.check_report.push_assumed.Given as goal

abbrev pub invariant-loop-told : goal.invariant-loop-told
invariant-loop-told l = string_bytes l.lines ++ assumed_lines (drop l.told-index l.assumed) ≡ string_bytes l.initial.lines ++ assumed_lines l.assumed
