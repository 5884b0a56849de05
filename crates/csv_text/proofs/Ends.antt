-- Where blanks at the end of a text begin, and where the first byte of a kind is.
use Rattle.std.proofs.Common.{◌≡◌, ℕ, ◌-◌, ◌<◌, ◌≤◌, Bool, true, false, List, length, get_or, sym, arith}
use Rattle.std.specs.List.{suffix_len, position_or_len}
use Rattle.std.proofs.lemmas.List.Sums.{suffix_len_is, position_or_len_is}
use Rattle.csv_text.specs.Fields.{is_blank}

-- blanks stand from here to the end, and none before
pub trimmed_at : (text : List ℕ) (count : ℕ) → count ≤ length text → ((k : ℕ) → count ≤ k → k < length text → is_blank (get_or text k 0) ≡ true) → (0 < count → is_blank (get_or text (count - 1) 0) ≡ false)
    → count ≡ length text - suffix_len is_blank text
trimmed_at text count within blank before =
    let is = suffix_len_is is_blank text count 0 within blank before in
    omega (arith, is)

-- such a byte stands here, or the text ends, and none before
pub first_here : (p : ℕ → Bool) (text : List ℕ) (count : ℕ) → count ≤ length text → ((k : ℕ) → k < count → p (get_or text k 0) ≡ false) → (count < length text → p (get_or text count 0) ≡ true)
    → count ≡ position_or_len p text
first_here p text count within none here = sym (position_or_len_is p text count 0 within none here)
