-- Where a program stands in its text: the place of its next word, and the loops around it that go on.
use Rattle.std.specs.Prelude.{◌≡◌, ℕ, ◌+◌, ◌-◌, ◌==◌, if◌then◌else◌, List, [], ◌∷◌, ◌++◌}
use Rattle.micro_word.specs.declared.word.Word.{Word}
use Rattle.micro_word.specs.declared.word.Word.TheVariants.{BranchOnStatus, Loop, Next, Jump}
use Rattle.micro_program.specs.Lines.{Line, repeated, from_place}
use Rattle.micro_program.specs.Places.{from_word}
use Rattle.micro_program.specs.Program.{meets}
use Rattle.seq_core.specs.declared.loops.OpenLoop.{OpenLoop}

-- ---- what is still to come

-- what comes behind this turn: of each loop the turns that are left, and then what follows it
abbrev pub behind_turn : List Word → List (List Line) → List OpenLoop → List Line
behind_turn words [] loops = []
behind_turn words (rest ∷ outer) [] = []
behind_turn words (rest ∷ outer) (inner ∷ loops) = repeated inner.left (from_word words inner.start).lines ++ (rest ++ behind_turn words outer loops)

-- what is to come at a place in such loops
abbrev pub lines_at : List Word → ℕ → List OpenLoop → List Line
lines_at words at loops = (from_word words at).lines ++ behind_turn words (from_word words at).outer loops

-- these are the loops around a place, the innermost first: what follows each is what follows it at its first word
abbrev pub AreAround : List Word → List (List Line) → List OpenLoop → Type 0
AreAround words [] [] = Unit {0}
AreAround words [] (inner ∷ loops) = ⊥
AreAround words (rest ∷ outer) [] = ⊥
AreAround words (rest ∷ outer) (inner ∷ loops) = ((from_word words inner.start).outer ≡ rest ∷ outer) × AreAround words outer loops

-- a program with these lines ahead stands at this place in these loops
pub record StandsAt (words : List Word) (ahead : List Line) (at : ℕ) (loops : List OpenLoop) : Type 0 where
  pub lines : ahead ≡ lines_at words at loops
  pub around : AreAround words (from_word words at).outer loops

-- ---- what a word leaves of it

-- behind the last word of a loop: its first word if a turn is left, else the word behind it
abbrev pub next_place : ℕ → List OpenLoop → ℕ
next_place at [] = at + 1
next_place at (inner ∷ loops) = if inner.left == 0 then at + 1 else inner.start

abbrev pub next_loops : List OpenLoop → List OpenLoop
next_loops [] = []
next_loops (inner ∷ loops) = if inner.left == 0 then loops else record { start = inner.start; left = inner.left - 1 } ∷ loops

-- the place behind a word; the status is that of the last poll
abbrev pub place_behind : ℕ → List OpenLoop → (status : ℕ) → Word → ℕ
place_behind at loops status (BranchOnStatus mask target) = if meets mask status then target else at + 1
place_behind at loops status (Jump target) = target
place_behind at loops status Next = next_place at loops
place_behind at loops status _ = at + 1

-- the loops behind it
abbrev pub loops_behind : ℕ → List OpenLoop → Word → List OpenLoop
loops_behind at loops (Loop turns) = record { start = at + 1; left = turns - 1 } ∷ loops
loops_behind at loops Next = next_loops loops
loops_behind at loops _ = loops

-- what it leaves of the lines behind it
abbrev pub lines_left : (status : ℕ) → Word → List Line → List Line
lines_left status (BranchOnStatus mask target) rest = if meets mask status then from_place target rest else rest
lines_left status (Jump target) rest = from_place target rest
lines_left status _ rest = rest
