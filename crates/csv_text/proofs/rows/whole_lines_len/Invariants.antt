use Rattle.std.proofs.Common.{◌≡◌, ◌==◌, ◌≤◌, false, length, drop}
use Rattle.std.specs.List.{All}
use Rattle.csv_text.proofs.rows.whole_lines_len.Given as goal

abbrev pub invariant-bytes : goal.invariant-bytes
invariant-bytes l = (l.count ≤ length l.piece) × All (λ b. (b == 10) ≡ false) (drop l.count l.piece)

abbrev pub decreases-bytes : goal.decreases-bytes
decreases-bytes l = l.count
