use Rattle.std.proofs.Common.{◌≡◌, ◌+◌, ◌≤◌, ℕ, List, length}
use Rattle.csv_text.specs.Rows.{MayFollow}
use Rattle.csv_text.specs.Shown.{values_before}
use Rattle.csv_text.proofs.rows.Rows.next_values.Given as goal

abbrev pub invariant-rows : goal.invariant-rows
invariant-rows l = record {
  rows : (more : List ℕ) → MayFollow l.initial.self.rest.now more → values_before l.initial.self more ≡ values_before l.self more;
  follows : (more : List ℕ) → MayFollow l.initial.self.rest.now more → MayFollow l.self.rest.now more;
  line : l.initial.self.line ≤ l.self.line;
  shorter : length l.self.rest.now ≤ length l.initial.self.rest.now;
  room : l.self.line + length l.self.rest.now ≤ l.initial.self.line + length l.initial.self.rest.now;
}

abbrev pub decreases-rows : goal.decreases-rows
decreases-rows l = length l.self.rest.now
