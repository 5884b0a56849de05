use Rattle.std.proofs.Common.{◌≡◌, ◌+◌, ◌≤◌, ℕ, List, length}
use Rattle.csv_text.specs.Rows.{MayFollow}
use Rattle.csv_text.specs.Table.{table_from, table_of}
use Rattle.csv_text.specs.Shown.{rows_before}
use Rattle.csv_text.proofs.table.find_names.Given as goal

abbrev pub invariant-rows : goal.invariant-rows
invariant-rows l = record {
  same : (more : List ℕ) → MayFollow l.initial.rows.rest.now more → table_of (rows_before l.initial.rows more) ≡ table_from (record { channels = l.channels; rate = l.rate }) (rows_before l.rows more);
  follows : (more : List ℕ) → MayFollow l.initial.rows.rest.now more → MayFollow l.rows.rest.now more;
  line : l.initial.rows.line ≤ l.rows.line;
  shorter : length l.rows.rest.now ≤ length l.initial.rows.rest.now;
  room : l.rows.line + length l.rows.rest.now ≤ l.initial.rows.line + length l.initial.rows.rest.now;
}

abbrev pub decreases-rows : goal.decreases-rows
decreases-rows l = length l.rows.rest.now
