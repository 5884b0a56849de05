use Rattle.std.proofs.Common.{◌≡◌, ◌+◌, ◌≤◌, ℕ, List, length}
use Rattle.csv_text.specs.Rows.{MayFollow}
use Rattle.csv_text.specs.Shown.{rows_before}
use Rattle.csv_text.proofs.rows.Rows.next_row.Given as goal

abbrev pub invariant-lines : goal.invariant-lines
invariant-lines l = record {
  rows : (more : List ℕ) → MayFollow l.initial.self.rest.now more → rows_before l.initial.self more ≡ rows_before l.self more;
  follows : (more : List ℕ) → MayFollow l.initial.self.rest.now more → MayFollow l.self.rest.now more;
  line : l.initial.self.line ≤ l.self.line;
  shorter : length l.self.rest.now ≤ length l.initial.self.rest.now;
  room : l.self.line + length l.self.rest.now ≤ l.initial.self.line + length l.initial.self.rest.now;
}

abbrev pub decreases-lines : goal.decreases-lines
decreases-lines l = length l.self.rest.now
