-- A code that is too long.
use Rattle.std.proofs.Common.{◌≡◌, ℕ, ◌<◌, suc, false, List, ◌∷◌, None, length, drop, get_or, refl}
use Rattle.std.specs.Prelude.{nat_lt}
use Rattle.std.proofs.Math.Seq.{drop-cons}
use Rattle.vcd_text.specs.Tokens.{code_from}

stops : (n b : ℕ) (word : List ℕ) → nat_lt n 72057594037927936 ≡ false → code_from n (b ∷ word) ≡ None
stops n b word e = rw e refl

pub code_stops : (n i : ℕ) (word : List ℕ) → i < length word → nat_lt n 72057594037927936 ≡ false → code_from n (drop i word) ≡ None
code_stops n i word within e = rw (drop-cons word i 0 within) (stops n (get_or word i 0) (drop (suc i) word) e)
