use Rattle.std.proofs.Common.{◌≡◌}
use Rattle.std.specs.Option.{option_copied}
use Rattle.csv_text.specs.Fields.{are_as_many}
use Rattle.csv_text.specs.Shown.{fields_in, room_in}
use Rattle.csv_text.proofs.fields.are_as_many.Given as goal

abbrev pub invariant-fields : goal.invariant-fields
invariant-fields l =
    are_as_many (fields_in l.separator (option_copied l.first.rest)) (fields_in l.other (option_copied l.second.rest))
    ≡ are_as_many (fields_in l.separator (option_copied l.fn.first.rest)) (fields_in l.other (option_copied l.fn.second.rest))

abbrev pub decreases-fields : goal.decreases-fields
decreases-fields l = room_in (option_copied l.first.rest)
