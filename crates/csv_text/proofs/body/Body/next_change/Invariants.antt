use Rattle.std.proofs.Common.{◌≡◌, ◌≤◌, ℕ, List}
use Rattle.std.specs.Option.{option_copied}
use Rattle.vcd_text.specs.Body.{Told}
use Rattle.csv_text.specs.Shown.{room_in, with_row_left, told_rows, HasRoom, bytes_left}
use Rattle.csv_text.proofs.body.Body.next_change.Given as goal

abbrev pub invariant-fields : goal.invariant-fields
invariant-fields l = record {
  same : (later : List Told) → with_row_left l.self later ≡ with_row_left l.initial.self later;
  rows : l.self.rows ≡ l.initial.self.rows;
  told : (more : List ℕ) → told_rows l.self more ≡ told_rows l.initial.self more;
  form : l.self.form ≡ l.initial.self.form;
  separator : l.separator ≡ l.initial.self.form.separator;
  names : l.self.names ≡ l.initial.self.names;
  room : HasRoom l.self;
  less : bytes_left l.self ≤ bytes_left l.initial.self;
}

abbrev pub decreases-fields : goal.decreases-fields
decreases-fields l = room_in (option_copied l.self.row.rest)
