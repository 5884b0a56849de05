-- One word more of those that are looked at.
use Rattle.std.proofs.Common.{◌≡◌, ℕ, suc, ◌+◌, ◌-◌, ◌<◌, false, List, refl, arith}
use Rattle.word_file.specs.Words.{word_in, is_continuing, continues}

one_left : (at n : ℕ) → at < n → n - at ≡ suc (n - (at + 1))
one_left at n h = omega (arith, h)

pub goes_on : (file : List ℕ) (at n : ℕ) → at < n → is_continuing (word_in file at) ≡ false → continues file at (n - at) ≡ continues file (at + 1) (n - (at + 1))
goes_on file at n h e = rw (one_left at n h, e) refl
