use Rattle.std.proofs.Common.{◌≡◌, ◌≤◌, false, length, drop}
use Rattle.std.specs.List.{All}
use Rattle.vcd_text.specs.Words.{is_blank}
use Rattle.vcd_text.proofs.words.whole_len.Given as goal

abbrev pub invariant-bytes : goal.invariant-bytes
invariant-bytes l = (l.count ≤ length l.piece) × All (λ b. is_blank b ≡ false) (drop l.count l.piece)

abbrev pub decreases-bytes : goal.decreases-bytes
decreases-bytes l = l.count
