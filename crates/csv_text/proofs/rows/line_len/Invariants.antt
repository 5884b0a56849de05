use Rattle.std.proofs.Common.{◌≡◌, ℕ, ◌≤◌, ◌-◌, List, [], ◌++◌, length, take, drop}
use Rattle.csv_text.specs.Rows.{rows_from, EndsLine}
use Rattle.csv_text.proofs.rows.line_len.Given as goal

abbrev pub invariant-bytes : goal.invariant-bytes
invariant-bytes l = record {
  within : l.count ≤ length l.text;
  rows : (line : ℕ) (more : List ℕ) → rows_from line [] (l.text ++ more) ≡ rows_from line (take l.count l.text) (drop l.count l.text ++ more);
  ends : EndsLine l.text → EndsLine (drop l.count l.text);
}

abbrev pub decreases-bytes : goal.decreases-bytes
decreases-bytes l = length l.text - l.count
