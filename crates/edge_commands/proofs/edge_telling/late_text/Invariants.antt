use Rattle.std.proofs.Common.{◌≡◌, ◌++◌, drop}
use Rattle.std.specs.String.{string_bytes}
use Rattle.edge_commands.specs.Edges.{late_lines}
use Rattle.edge_commands.proofs.edge_telling.late_text.Given as goal

abbrev pub invariant-loop-found : goal.invariant-loop-found
invariant-loop-found l = string_bytes l.lines ++ late_lines (drop l.found-index l.late) ≡ late_lines l.late
