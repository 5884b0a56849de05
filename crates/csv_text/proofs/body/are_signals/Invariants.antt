use Rattle.std.proofs.Common.{◌≡◌}
use Rattle.std.specs.Option.{option_copied}
use Rattle.csv_text.specs.Body.{are_signals}
use Rattle.csv_text.specs.Shown.{fields_in, room_in}
use Rattle.csv_text.proofs.body.are_signals.Given as goal

abbrev pub invariant-fields : goal.invariant-fields
invariant-fields l = are_signals (fields_in l.separator (option_copied l.left.rest)) ≡ are_signals (fields_in l.separator (option_copied l.fields.rest))

abbrev pub decreases-fields : goal.decreases-fields
decreases-fields l = room_in (option_copied l.left.rest)
