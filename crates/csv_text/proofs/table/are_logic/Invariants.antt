use Rattle.std.proofs.Common.{◌≡◌}
use Rattle.std.specs.Option.{option_copied}
use Rattle.csv_text.specs.Table.{are_logic}
use Rattle.csv_text.specs.Shown.{fields_in, room_in}
use Rattle.csv_text.proofs.table.are_logic.Given as goal

abbrev pub invariant-names : goal.invariant-names
invariant-names l = are_logic (fields_in l.separator (option_copied l.left.rest)) ≡ are_logic (fields_in l.separator (option_copied l.names.rest))

abbrev pub decreases-names : goal.decreases-names
decreases-names l = room_in (option_copied l.left.rest)
