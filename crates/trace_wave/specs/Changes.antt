-- What changes at a time, as text.
use Rattle.std.specs.Prelude.{ℕ, ◌+◌, ◌==◌, if◌then◌else◌, List, [], ◌∷◌, ◌++◌}
use Rattle.std.specs.Fmt.{decimal}

-- a line that changes: its level, its code and a line feed
abbrev pub change : (code before after : ℕ) → List ℕ
change code before after = if before == after then [] else after ∷ code ∷ 10 ∷ []

-- the lines that change, of those with the codes from here on
abbrev pub changes : (code : ℕ) → (before after : List ℕ) → List ℕ
changes code [] after = []
changes code (b ∷ before) [] = []
changes code (b ∷ before) (a ∷ after) = change code b a ++ changes (code + 1) before after

-- the line of a time
abbrev pub time_line : ℕ → List ℕ
time_line time = 35 ∷ (decimal time ++ (10 ∷ []))

-- a text under its time; nothing where it is empty
abbrev pub at_time : ℕ → List ℕ → List ℕ
at_time time [] = []
at_time time (b ∷ text) = time_line time ++ (b ∷ text)

-- a frame: a time and what changes there, if anything does
abbrev pub frame : (time : ℕ) → (before after : List ℕ) → List ℕ
frame time before after = at_time time (changes 33 before after)
