-- The rows of a CSV: its lines but those that are empty.
use Rattle.std.specs.Prelude.{◌≡◌, ⊤, ℕ, ◌+◌, ◌==◌, ◌&&◌, ◌||◌, Bool, true, false, if◌then◌else◌, List, [], ◌∷◌, ◌++◌}
use Rattle.std.specs.Str.Lines.{strip_carriage_return}
use Rattle.csv_text.specs.Fields.{trim_front}

pub record Row : Type 0 where
  pub line : ℕ
  pub text : List ℕ

-- a line isn't a row if nothing stands in it
abbrev pub is_some_text : List ℕ → Bool
is_some_text [] = false
is_some_text (b ∷ bytes) = true

abbrev pub is_row : List ℕ → Bool
is_row text = is_some_text (trim_front text)

-- a line that has ended, in front of other rows
abbrev pub with_row : ℕ → List ℕ → List Row → List Row
with_row line text rows = if is_row text then record { line = line; text = text } ∷ rows else rows

-- a line, at whose end a carriage return may stand
abbrev pub ended : ℕ → List ℕ → List Row → List Row
ended line front rows = with_row line (strip_carriage_return front) rows

-- the rows from line number `line` on, of which `front` is read: a line feed (10) ends a line, or the end of the file
abbrev pub rows_from : (line : ℕ) → (front : List ℕ) → List ℕ → List Row
rows_from line front [] = ended line front []
rows_from line front (b ∷ bytes) = if b == 10 then ended line front (rows_from (line + 1) [] bytes) else rows_from line (front ++ b ∷ []) bytes

-- the rows of a file
abbrev pub rows : List ℕ → List Row
rows text = rows_from 1 [] text

-- ---- rows that are no values

-- META and a space, as sigrok-cli writes it
abbrev pub begins_meta : List ℕ → Bool
begins_meta (a ∷ b ∷ c ∷ d ∷ e ∷ text) = (a == 77) && (b == 69 && (c == 84 && (d == 65 && e == 32)))
begins_meta _ = false

abbrev pub begins_note : List ℕ → Bool
begins_note [] = false
begins_note (b ∷ text) = b == 59 || begins_meta (b ∷ text)

-- a comment: a semicolon (59) stands at its front; or a line META of sigrok-cli
abbrev pub is_note : List ℕ → Bool
is_note text = begins_note (trim_front text)

-- the rows without comments
abbrev pub values : List Row → List Row
values [] = []
values (row ∷ rows) = if is_note row.text then values rows else row ∷ values rows

-- ---- a text in pieces

-- the last line is ended
abbrev pub EndsLine : List ℕ → Type 0
EndsLine [] = ⊥
EndsLine (b ∷ []) = b ≡ 10
EndsLine (b ∷ c ∷ bytes) = EndsLine (c ∷ bytes)

-- no line goes on behind a text
abbrev pub AreLines : List ℕ → Type 0
AreLines [] = ⊤
AreLines (b ∷ bytes) = EndsLine (b ∷ bytes)

-- more may follow on whole lines, and nothing on any text
abbrev pub MayFollow : (text more : List ℕ) → Type 0
MayFollow text [] = ⊤
MayFollow text (b ∷ more) = AreLines text
