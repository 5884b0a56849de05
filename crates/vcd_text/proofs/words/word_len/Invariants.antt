use Rattle.std.proofs.Common.{◌≡◌, ℕ, ◌<◌, ◌≤◌, ◌-◌, [], length, take, drop}
use Rattle.vcd_text.specs.Words.{words_from, lines_from, IsCut}
use Rattle.vcd_text.proofs.words.word_len.Given as goal

abbrev pub invariant-bytes : goal.invariant-bytes
invariant-bytes l = record {
  some : 0 < l.count;
  within : l.count ≤ length l.text;
  word : (line : ℕ) → words_from line [] l.text ≡ words_from line (take l.count l.text) (drop l.count l.text);
  lines : (line : ℕ) → lines_from line (drop l.count l.text) ≡ lines_from line l.text;
  cut : IsCut l.text → IsCut (drop l.count l.text);
}

abbrev pub decreases-bytes : goal.decreases-bytes
decreases-bytes l = length l.text - l.count
