use Rattle.std.proofs.Common.{◌≡◌, ◌+◌, ◌<◌, ◌++◌, ◌^◌}
use Rattle.std.specs.Option.{option_copied}
use Rattle.vcd_text.specs.Sections.{shown_variables}
use Rattle.csv_text.specs.Table.{variables_from}
use Rattle.csv_text.specs.Shown.{fields_in, room_in}
use Rattle.csv_text.proofs.table.variables_of.Given as goal

abbrev pub invariant-names : goal.invariant-names
invariant-names g l = record {
  same : shown_variables l.variables.items ++ variables_from l.code (fields_in l.separator (option_copied l.left.rest)) ≡ variables_from l.first (fields_in l.separator (option_copied l.names.rest));
  room : l.code + room_in (option_copied l.left.rest) < 2 ^ 64;
}

abbrev pub decreases-names : goal.decreases-names
decreases-names g l = room_in (option_copied l.left.rest)
