-- What is written into a buffer of the caller.
use Rattle.std.specs.Prelude.{ℕ, ◌+◌, ◌-◌, min, if◌then◌else◌, nat_lt, List, ◌∷◌, ◌++◌, length, take, drop}
use Rattle.placed_bytes.specs.declared.placed.OnfiseqPlaced.{OnfiseqPlaced}

-- a code, and where
abbrev pub refusal : ℕ → ℕ → ℕ → OnfiseqPlaced
refusal letter number at = record { letter = letter; number = number; at = at; length = 0 }

-- what is told of bytes that are to stand at the front of a buffer: B where that is shorter
abbrev pub placed : (bytes buffer : List ℕ) → OnfiseqPlaced
placed bytes buffer = record { letter = if nat_lt (length buffer) (length bytes) then 66 else 0; number = 0; at = 0; length = length bytes }

-- the buffer then: as it was, where it is shorter, and else as it was behind them
abbrev pub placed_in : (bytes buffer : List ℕ) → List ℕ
placed_in bytes buffer = if nat_lt (length buffer) (length bytes) then buffer else bytes ++ drop (length bytes) buffer

-- how many of these bytes stand in a text, which has a 0 behind them
abbrev pub kept_of : (bytes text : List ℕ) → ℕ
kept_of bytes text = min (length bytes) (length text - 1)

-- the text with so many bytes at its front, and a 0
abbrev pub ended_at : (kept : ℕ) → (bytes text : List ℕ) → List ℕ
ended_at kept bytes text = take kept bytes ++ (0 ∷ drop (kept + 1) text)

-- the text then, cut where they don't fit; a text without room stays as it is
abbrev pub cut_in : (bytes text : List ℕ) → List ℕ
cut_in bytes text = if nat_lt 0 (length text) then ended_at (kept_of bytes text) bytes text else text
