use Rattle.std.proofs.Common.{◌≡◌}
use Rattle.std.specs.Option.{option_copied}
use Rattle.csv_text.specs.Table.{are_values}
use Rattle.csv_text.specs.Shown.{fields_in, room_in}
use Rattle.csv_text.proofs.table.are_values.Given as goal

abbrev pub invariant-fields : goal.invariant-fields
invariant-fields l = are_values (fields_in l.separator (option_copied l.left.rest)) ≡ are_values (fields_in l.separator (option_copied l.row.rest))

abbrev pub decreases-fields : goal.decreases-fields
decreases-fields l = room_in (option_copied l.left.rest)
