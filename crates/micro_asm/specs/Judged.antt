-- A line judged by its place, with no more known of what stands in front than how far reading has come.
use Rattle.std.specs.Prelude.{ℕ, ◌+◌, Bool, false, nat_lt, if◌then◌else◌, List, [], ◌∷◌, ◌++◌, length, Option, Some, None, is_some, Result, Ok, Err}
use Rattle.std.specs.Map.{update}
use Rattle.std.specs.Str.{bytes_eq}
use Rattle.micro_asm.specs.declared.refusal.AsmFault.{AsmFault}
use Rattle.micro_asm.specs.declared.refusal.AsmFault.TheVariants.{LabelTwice, LabelAfterLastWord, TooManyWords, HeaderOutOfOrder}
use Rattle.micro_asm.specs.declared.heading.Heading.{Heading}
use Rattle.micro_asm.specs.declared.heading.Heading.TheVariants as heading
use Rattle.micro_asm.specs.declared.progress.Progress.{Progress}
use Rattle.micro_asm.specs.Line.{Line, Nothing, Header, Label, Entered, Entry}
use Rattle.micro_asm.specs.Reading.{Seen, with_setting, is_heading}

abbrev pub at_start : Progress
at_start = record { line = 1; heading = heading.Empty; words = 0 }

-- one line further
abbrev pub further : Progress → Heading → ℕ → Progress
further at h words = record { line = at.line + 1; heading = h; words = words }

abbrev pub judged_setting : Progress → Option Heading → Result Progress AsmFault
judged_setting at (Some h) = Ok (further at h at.words)
judged_setting at None = Err HeaderOutOfOrder

-- a label, which may stand in front already; `last` is the number of the last line with a word
abbrev pub judged_label : ℕ → Progress → Bool → Result Progress AsmFault
judged_label last at taken =
    if is_heading at.heading then Err HeaderOutOfOrder else (
    if taken then Err LabelTwice else (
    if nat_lt at.line last then Ok (further at at.heading at.words) else Err LabelAfterLastWord))

abbrev pub judged_word : Progress → Result Progress AsmFault
judged_word at =
    if is_heading at.heading then Err HeaderOutOfOrder else (
    if nat_lt at.words 1024 then Ok (further at at.heading (at.words + 1)) else Err TooManyWords)

-- a line in its place: how far reading has come after it, or its fault
unfoldable pub judged : ℕ → Progress → Bool → Line → Result Progress AsmFault
judged last at taken Nothing = Ok (further at at.heading at.words)
judged last at taken (Header setting) = judged_setting at (with_setting at.heading setting)
judged last at taken (Label name) = judged_label last at taken
judged last at taken (Entered entry) = judged_word at

-- ---- what has been read, and how far reading has come

abbrev pub progress : Seen → Progress
progress seen = record { line = seen.line; heading = seen.heading; words = length seen.entries }

-- the line is a label that stands in front already
abbrev pub is_taken : Seen → Line → Bool
is_taken seen (Label name) = is_some (seen.labels name)
is_taken seen _ = false

-- a line's word or label is kept
abbrev pub kept_entries : Seen → Line → List (ℕ × Entry)
kept_entries seen (Entered entry) = seen.entries ++ (seen.line, entry) ∷ []
kept_entries seen _ = seen.entries

abbrev pub kept_labels : Seen → Line → List ℕ → Option ℕ
kept_labels seen (Label name) = update bytes_eq seen.labels name (Some (length seen.entries))
kept_labels seen _ = seen.labels

abbrev pub kept : Seen → Line → Seen
kept seen l = record { line = seen.line; heading = seen.heading; entries = kept_entries seen l; labels = kept_labels seen l }

abbrev pub moved : Seen → Progress → Seen
moved seen next = record { line = next.line; heading = next.heading; entries = seen.entries; labels = seen.labels }
