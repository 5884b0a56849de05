-- Reading a whole text: its microprogram, or its first fault with the line.
use Rattle.std.specs.Prelude.{◌≡◌, ℕ, ◌+◌, Bool, true, false, ◌==◌, nat_lt, if◌then◌else◌, List, [], ◌∷◌, ◌++◌, length, Option, Some, None, is_some, Result, Ok, Err, IsOk, ok_or}
use Rattle.std.specs.List.{slice_split}
use Rattle.std.specs.Map.{update}
use Rattle.std.specs.Str.{bytes_eq}
use Rattle.micro_word.specs.declared.word.Word.{Word}
use Rattle.micro_word.specs.declared.word.Word.TheVariants.{BranchOnStatus, Jump}
use Rattle.micro_word.specs.Text.{Microprogram}
use Rattle.micro_asm.specs.declared.refusal.AsmFault.{AsmFault}
use Rattle.micro_asm.specs.declared.refusal.AsmFault.TheVariants.{NoSuchLabel, LabelTwice, LabelAfterLastWord, TooManyWords, HeaderOutOfOrder}
use Rattle.micro_asm.specs.declared.refusal.AsmRefusal.{AsmRefusal}
use Rattle.micro_asm.specs.declared.refusal.AsmRefusal.TheVariants.{Fault, OutOfMemory}
use Rattle.micro_asm.specs.declared.heading.Numbers.{Numbers}
use Rattle.micro_asm.specs.declared.heading.Heading.{Heading}
use Rattle.micro_asm.specs.declared.heading.Heading.TheVariants as heading
use Rattle.micro_asm.specs.declared.statement.Setting.{Setting}
use Rattle.micro_asm.specs.declared.statement.Setting.TheVariants as setting
use Rattle.micro_asm.specs.Line.{◌>>=◌, and_then, Line, Nothing, Header, Label, Entered, Entry, Plain, Branch, fields, before_comment, spelled, begins_word}
use Rattle.micro_asm.specs.Line as line

-- ---- lines

-- A line feed (10) ends a line, and so does the end of the text; after the last feed there is a line only if something stands there.
abbrev pub last_line : List ℕ → List (List ℕ)
last_line [] = []
last_line (b ∷ bs) = (b ∷ bs) ∷ []

abbrev pub lines_of : List (List ℕ) → List (List ℕ)
lines_of [] = []
lines_of (l ∷ []) = last_line l
lines_of (l ∷ m ∷ more) = l ∷ lines_of (m ∷ more)

unfoldable pub lines : List ℕ → List (List ℕ)
lines text = lines_of (slice_split (λ b. b == 10) text)

-- the number of the last line that begins with a word's name, whatever follows it; the first of these lines has number n
unfoldable pub last_word : ℕ → ℕ → List (List ℕ) → ℕ
last_word found n [] = found
last_word found n (l ∷ ls) = last_word (if begins_word (fields (before_comment l)) then n else found) (n + 1) ls

-- ---- the header

-- the next of the three header lines: rows, then buffer, then budget
abbrev pub with_setting : Heading → Setting → Option Heading
with_setting heading.Empty (setting.Rows rows) = Some (heading.Rows rows)
with_setting (heading.Rows rows) (setting.Buffer buffer) = Some (heading.Buffer rows buffer)
with_setting (heading.Buffer rows buffer) (setting.Budget budget) = Some (heading.Whole (record { rows = rows; buffer = buffer; budget = budget }))
with_setting _ _ = None

-- a header line is still to come
abbrev pub is_heading : Heading → Bool
is_heading (heading.Whole numbers) = false
is_heading _ = true

abbrev pub numbers_of : Heading → Option Numbers
numbers_of (heading.Whole numbers) = Some numbers
numbers_of _ = None

-- ---- line by line

-- What has been read in front of a line: its number, the header, the words with the numbers of their lines, and the place of each label's word.
pub record Seen : Type 0 where
  pub line : ℕ
  pub heading : Heading
  pub entries : List (ℕ × Entry)
  pub labels : List ℕ → Option ℕ

abbrev pub nothing_seen : Seen
nothing_seen = record { line = 1; heading = heading.Empty; entries = []; labels = λ name. None }

abbrev pub with_heading : Seen → Option Heading → Result Seen AsmRefusal
with_heading seen (Some h) = Ok (record { line = seen.line + 1; heading = h; entries = seen.entries; labels = seen.labels })
with_heading seen None = Err (Fault HeaderOutOfOrder seen.line)

-- a label names the next word; `last` is the number of the last line with a word
unfoldable pub with_label : ℕ → Seen → List ℕ → Result Seen AsmRefusal
with_label last seen name =
    if is_heading seen.heading then Err (Fault HeaderOutOfOrder seen.line) else (
    if is_some (seen.labels name) then Err (Fault LabelTwice seen.line) else (
    if nat_lt seen.line last
    then Ok (record { line = seen.line + 1; heading = seen.heading; entries = seen.entries; labels = update bytes_eq seen.labels name (Some (length seen.entries)) })
    else Err (Fault LabelAfterLastWord seen.line)))

unfoldable pub with_entry : Seen → Entry → Result Seen AsmRefusal
with_entry seen entry =
    if is_heading seen.heading then Err (Fault HeaderOutOfOrder seen.line) else (
    if nat_lt (length seen.entries) 1024
    then Ok (record { line = seen.line + 1; heading = seen.heading; entries = seen.entries ++ (seen.line, entry) ∷ []; labels = seen.labels })
    else Err (Fault TooManyWords seen.line))

-- a line in its place
unfoldable pub placed : ℕ → Seen → Line → Result Seen AsmRefusal
placed last seen Nothing = Ok (record { line = seen.line + 1; heading = seen.heading; entries = seen.entries; labels = seen.labels })
placed last seen (Header setting) = with_heading seen (with_setting seen.heading setting)
placed last seen (Label name) = with_label last seen name
placed last seen (Entered entry) = with_entry seen entry

-- a fault of a line, with the number of the line
abbrev pub at_line : {A : Type 0} → ℕ → Result A AsmFault → Result A AsmRefusal
at_line line (Ok x) = Ok x
at_line line (Err code) = Err (Fault code line)

unfoldable pub with_line : ℕ → Seen → List ℕ → Result Seen AsmRefusal
with_line last seen line = do
  l ← at_line seen.line (spelled (is_heading seen.heading) line)
  placed last seen l

unfoldable pub with_lines : ℕ → Seen → List (List ℕ) → Result Seen AsmRefusal
with_lines last seen [] = Ok seen
with_lines last seen (l ∷ ls) = do
  next ← with_line last seen l
  with_lines last next ls

-- ---- branches

-- the place of a label's word, if there is such a word
abbrev pub place_of : ℕ → Option ℕ → Option ℕ
place_of words (Some place) = if nat_lt place words then Some place else None
place_of words None = None

-- the word, its branch led to its place
abbrev pub led : ℕ → (List ℕ → Option ℕ) → Entry → Option Word
led words labels (Plain word) = Some word
led words labels (Branch mask to) = and_then (place_of words (labels to)) (λ place. Some (BranchOnStatus mask place))
led words labels (line.Jump to) = and_then (place_of words (labels to)) (λ place. Some (Jump place))

-- the words of a text of so many, each branch led to its place
unfoldable pub words_of : ℕ → (List ℕ → Option ℕ) → List (ℕ × Entry) → Result (List Word) AsmRefusal
words_of words labels [] = Ok []
words_of words labels (e ∷ es) = do
  word ← ok_or (led words labels e.1) (Fault NoSuchLabel e.0)
  others ← words_of words labels es
  Ok (word ∷ others)

-- ---- the text

abbrev pub program : Numbers → List Word → Microprogram
program numbers words = record { rows = numbers.rows; buffer = numbers.buffer; budget = numbers.budget; words = words }

-- what the lines give once all are read: a header line that is missing at the end is told of the line after the last
unfoldable pub given : Seen → Result Microprogram AsmRefusal
given seen = do
  numbers ← ok_or (numbers_of seen.heading) (Fault HeaderOutOfOrder seen.line)
  words ← words_of (length seen.entries) seen.labels seen.entries
  Ok (program numbers words)

-- all the lines
unfoldable pub seen_in : List (List ℕ) → Result Seen AsmRefusal
seen_in ls = with_lines (last_word 0 1 ls) nothing_seen ls

unfoldable pub reading : List ℕ → Result Microprogram AsmRefusal
reading text = do
  seen ← seen_in (lines text)
  given seen

-- The lines of the text spell the microprogram.
abbrev pub Spells : List ℕ → Microprogram → Type 0
Spells text x = reading text ≡ Ok x

-- A refusal is the fault that reading tells; or memory was refused at a text without a fault.
abbrev pub IsRefusalOf : {A : Type 0} → AsmRefusal → Result A AsmRefusal → Type 0
IsRefusalOf (Fault code line) read = read ≡ Err (Fault code line)
IsRefusalOf OutOfMemory read = IsOk read

-- The same where only the lines in front of the refused memory are read: it says nothing of those after.
abbrev pub MayRefuse : {A : Type 0} → AsmRefusal → Result A AsmRefusal → Type 0
MayRefuse (Fault code line) read = read ≡ Err (Fault code line)
MayRefuse OutOfMemory read = Unit {0}
