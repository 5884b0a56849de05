use Rattle.std.proofs.Common.{◌≡◌, ℕ, ◌<◌, ◌≤◌, true, length, get_or}
use Rattle.csv_text.specs.Fields.{is_blank}
use Rattle.csv_text.proofs.fields.trimmed_len.Given as goal

abbrev pub invariant-blanks : goal.invariant-blanks
invariant-blanks l = record {
  within : l.count ≤ length l.text;
  blank : (k : ℕ) → l.count ≤ k → k < length l.text → is_blank (get_or l.text k 0) ≡ true;
}

abbrev pub decreases-blanks : goal.decreases-blanks
decreases-blanks l = l.count
