-- What the words of a program leave of its buffer: all but what its `get`s fill.
use Rattle.std.specs.Prelude.{◌≡◌, ℕ, ◌+◌, Bool, false, ◌&&◌, ◌||◌, nat_le, nat_lt, List, [], ◌∷◌, length, slice_index}
use Rattle.micro_word.specs.declared.word.Word.{Word}
use Rattle.micro_word.specs.declared.word.Word.TheVariants.{Get}
use Rattle.micro_program.specs.Program.{Done, place_now}

-- a word that starts at this place of the buffer fills byte k
abbrev pub fills : (place : ℕ) → Word → (k : ℕ) → Bool
fills place (Get len) k = nat_le place k && nat_lt k (place + len)
fills place _ k = false

-- some word done has filled byte k
abbrev pub is_filled : List Done → ℕ → Bool
is_filled [] k = false
is_filled (d ∷ done) k = fills (place_now done) d.word k || is_filled done k

-- the later buffer has the length of the one before, and each of its bytes that no word done has filled
pub record KeepsOthers (done : List Done) (before later : List ℕ) : Type 0 where
  pub size : length later ≡ length before
  pub bytes : (k : ℕ) → is_filled done k ≡ false → slice_index later k ≡ slice_index before k
